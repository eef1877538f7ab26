pub mod Exactly
pub mod Own
