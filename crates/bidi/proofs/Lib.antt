pub mod Refusals
pub mod Calls
pub mod Possible
pub mod Fifo
pub mod Reading
