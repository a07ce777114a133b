pub mod Splitting
pub mod Numerals
pub mod Fitting
pub mod Counting
pub mod Examples
