pub mod Filters
pub mod Segments
