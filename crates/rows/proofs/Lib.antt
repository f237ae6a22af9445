pub mod Lexicographic
pub mod Words
pub mod Rows
pub mod Ascending
pub mod Places
pub mod Comparing
pub mod Arrays
pub mod Searching
