pub mod Counts
pub mod Entries
pub mod Bounds
pub mod Tabled
