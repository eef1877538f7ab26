pub mod Nearness
pub mod Order
pub mod Ranking
pub mod Sorting
