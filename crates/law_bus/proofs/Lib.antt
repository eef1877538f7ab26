pub mod Bus
pub mod Worked
