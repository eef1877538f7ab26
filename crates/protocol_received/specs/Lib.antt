pub mod OfRegister
pub mod Received
