pub mod Effects
pub mod Answer
