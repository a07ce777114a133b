pub mod Apart
pub mod Each
pub mod Frames
pub mod LastByte
pub mod Moved
pub mod Possible
pub mod Counted
