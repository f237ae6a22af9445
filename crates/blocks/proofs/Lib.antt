mod Places
pub mod Passes
