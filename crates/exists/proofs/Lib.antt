pub mod Answering
pub mod Existing
pub mod Listed
