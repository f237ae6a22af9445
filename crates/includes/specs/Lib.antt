pub mod References
pub mod Includes
