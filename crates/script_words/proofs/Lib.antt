pub mod Digits
pub mod Fields
pub mod Words
