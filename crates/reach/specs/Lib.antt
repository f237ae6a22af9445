pub mod Blocks
pub mod Reaching
