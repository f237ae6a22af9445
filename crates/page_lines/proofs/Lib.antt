pub mod Fields
pub mod Rows
