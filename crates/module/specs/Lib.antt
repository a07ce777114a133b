pub mod Application
pub mod Bench
pub mod Edge
pub mod Feed
pub mod Frames
pub mod Listen
pub mod Whole
