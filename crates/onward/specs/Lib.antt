pub mod Onward
pub mod Stop
