pub mod Ask
pub mod Look
pub mod Wait
