pub mod Ids
pub mod Limits
pub mod Spelt
pub mod Turned
