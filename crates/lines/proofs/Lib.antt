pub mod Blocks
pub mod Given
pub mod Places
pub mod Refusals
pub mod Spaced
pub mod Steps
pub mod Text
pub mod Writing
