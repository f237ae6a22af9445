pub mod Recoveries
pub mod Inputs
