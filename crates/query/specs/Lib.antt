pub mod Query
pub mod Collecting
