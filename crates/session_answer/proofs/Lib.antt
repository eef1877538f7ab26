pub mod Effects
pub mod Follows
pub mod Lent
