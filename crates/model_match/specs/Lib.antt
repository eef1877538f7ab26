pub mod Matching
