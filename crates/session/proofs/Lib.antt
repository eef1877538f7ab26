pub mod BuiltIn
pub mod Fresh
pub mod Patching
pub mod Slots
