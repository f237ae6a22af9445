pub mod Walks
pub mod Prefixes
pub mod Steps
