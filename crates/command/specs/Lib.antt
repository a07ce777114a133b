pub mod Meaning
pub mod Saying
pub mod Room
pub mod Pairs
