pub mod Reply
pub mod Group
