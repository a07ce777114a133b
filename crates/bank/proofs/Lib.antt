pub mod Laws
pub mod Language
pub mod Data
pub mod Shape
pub mod Groups
pub mod Summed
pub mod Written
pub mod Lists
