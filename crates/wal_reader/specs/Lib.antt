pub mod Entries
pub mod Look
pub mod Read
pub mod Answers
