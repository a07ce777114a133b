pub mod Alike
pub mod Calls
pub mod Cut
