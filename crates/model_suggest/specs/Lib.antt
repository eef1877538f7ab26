pub mod Order
pub mod Ranks
pub mod Suggestion
