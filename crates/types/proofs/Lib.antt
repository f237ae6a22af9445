mod Examples
pub mod References
