pub mod Claim
pub mod Worked
pub mod Written
