pub mod Layout
pub mod Command
