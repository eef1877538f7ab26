pub mod Magnitude
