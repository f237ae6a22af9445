pub mod Answers
pub mod Replaying
