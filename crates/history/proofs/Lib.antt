pub mod Kept
pub mod Undone
pub mod Places
pub mod Going
