pub mod Effects
pub mod Frames
