pub mod Registers
pub mod Value
