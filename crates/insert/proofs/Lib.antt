pub mod Decoding
pub mod Inserting
pub mod Kept
pub mod Numbers
