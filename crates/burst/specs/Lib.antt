pub mod Burst
pub mod Limits
