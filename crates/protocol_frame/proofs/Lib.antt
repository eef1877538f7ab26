pub mod Answered
pub mod Packing
