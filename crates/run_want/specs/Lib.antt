pub mod Message
pub mod Step
pub mod Want
