pub mod ModeReads
pub mod Ran
pub mod Started
pub mod Success
pub mod Told
pub mod Demand
pub mod Written
pub mod Worked
