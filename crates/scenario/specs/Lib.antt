pub mod Words
pub mod Numbers
pub mod Forms
pub mod Statements
