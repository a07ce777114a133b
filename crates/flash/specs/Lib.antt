pub mod FixedBank
pub mod OldBank
