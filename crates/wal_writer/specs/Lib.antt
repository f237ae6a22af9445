pub mod Append
pub mod Answers
