pub mod Roles
pub mod Settings
