pub mod ByParts
pub mod PutBack
