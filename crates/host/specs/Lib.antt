pub mod Encode
pub mod ReadBank
