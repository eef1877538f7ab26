pub mod Ack
pub mod Write
