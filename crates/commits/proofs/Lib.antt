mod Examples
pub mod Passes
