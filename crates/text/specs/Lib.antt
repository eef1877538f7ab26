pub mod Ascii
pub mod Text
