pub mod Alike
pub mod Pieces
pub mod Running
