pub mod Arithmetic
pub mod Float
