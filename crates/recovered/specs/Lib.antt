pub mod Answers
pub mod Payloads
