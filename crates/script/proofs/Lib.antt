pub mod Table
pub mod Parsing
pub mod Examples
