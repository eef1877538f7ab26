pub mod Beside
pub mod Marked
