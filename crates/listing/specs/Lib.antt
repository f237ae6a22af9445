pub mod Listing
pub mod Words
