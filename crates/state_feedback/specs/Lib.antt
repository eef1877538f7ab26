pub mod Feedback
