pub mod Filled
pub mod One
pub mod All
pub mod Laws
pub mod Counted
