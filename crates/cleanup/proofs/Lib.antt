pub mod Answering
pub mod Unloading
