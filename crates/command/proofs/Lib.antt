pub mod Room
pub mod Fields
pub mod Rows
pub mod BothWays
pub mod Laws
pub mod PairLaws
