pub mod Words
pub mod Range
