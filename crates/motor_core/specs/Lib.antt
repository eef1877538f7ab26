pub mod AndThen
pub mod Bus
pub mod Error
pub mod Model
pub mod Name
