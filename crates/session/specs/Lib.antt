pub mod BuiltIn
pub mod Session
pub mod Start
