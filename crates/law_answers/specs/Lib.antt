pub mod Answers
pub mod Apart
pub mod Cases
pub mod Laws
pub mod TurnedBack
