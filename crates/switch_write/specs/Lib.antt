pub mod WriteMode
