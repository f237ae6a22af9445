pub mod IndexRows
pub mod Indexing
