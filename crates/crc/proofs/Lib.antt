pub mod Laws
pub mod Lanes
mod Period
