pub mod TimeLeft
