pub mod State
pub mod Store
