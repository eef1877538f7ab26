pub mod Own
pub mod Worked
