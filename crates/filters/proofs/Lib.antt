pub mod Keeping
pub mod Segments
pub mod Rounds
pub mod Queries
pub mod Slices
