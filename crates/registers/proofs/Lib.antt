pub mod Below
pub mod Table
pub mod Known
pub mod Values
