pub mod Frames
pub mod Own
pub mod Records
pub mod Worked
