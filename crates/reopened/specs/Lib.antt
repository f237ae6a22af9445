pub mod Reopened
pub mod Passing
