pub mod Bounds
pub mod Clock
pub mod Ends
pub mod Systems
pub mod Trace
