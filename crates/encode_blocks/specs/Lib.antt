pub mod Whole
pub mod Blocks
