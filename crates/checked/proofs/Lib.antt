pub mod Growing
pub mod Accepted
