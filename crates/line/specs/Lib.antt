pub mod Line
pub mod Wire
pub mod Clock
