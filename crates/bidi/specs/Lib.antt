pub mod Messages
pub mod Bidi
pub mod Read
pub mod Actions
