pub mod Damiao
