pub mod Classes
pub mod OfRegister
pub mod Sorting
