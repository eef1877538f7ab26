pub mod Counted
pub mod Models
pub mod Places
