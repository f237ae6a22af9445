pub mod Reading
pub mod Blocks
pub mod Decoding
