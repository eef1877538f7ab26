pub mod Calls
pub mod Laws
pub mod Places
pub mod Ran
pub mod Turns
pub mod Worked
