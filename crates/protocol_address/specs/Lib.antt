pub mod Address
pub mod Exactly
