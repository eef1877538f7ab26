pub mod Motor
pub mod Refused
pub mod RoundTrip
pub mod Worked
