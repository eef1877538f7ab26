pub mod Fields
pub mod Refused
pub mod RoundTrip
pub mod Worked
