pub mod Wholes
pub mod Blocks
pub mod Decodes
