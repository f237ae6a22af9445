pub mod Looks
pub mod ReadAnswers
