pub mod Scanning
pub mod Accepted
pub mod Replaying
