pub mod Clock
pub mod Edges
pub mod Laws
pub mod Told
pub mod Wire
