pub mod Collecting
pub mod Answering
pub mod Tabled
