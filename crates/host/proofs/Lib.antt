pub mod EncoderLaws
pub mod ReaderLaws
pub mod Walk
pub mod Copying
