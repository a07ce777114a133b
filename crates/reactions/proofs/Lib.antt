pub mod Halves
pub mod Telling
