pub mod Checked
pub mod Halves
pub mod Parts
pub mod Restart
