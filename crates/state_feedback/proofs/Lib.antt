pub mod Numbers
pub mod Patching
