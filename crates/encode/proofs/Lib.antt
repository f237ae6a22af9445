pub mod Sizes
pub mod Encodings
