pub mod Setpoint
