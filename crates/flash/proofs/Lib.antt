pub mod Calls
pub mod FixedBank
pub mod OldCells
pub mod OldPlaces
pub mod Rows
pub mod Running
pub mod Stores
pub mod Views
