pub mod Sheet
pub mod Store
