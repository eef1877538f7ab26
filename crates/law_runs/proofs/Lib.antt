pub mod Budget
pub mod Clock
pub mod Ends
pub mod Runs
pub mod Weighing
