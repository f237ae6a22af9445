pub mod Bincode
pub mod Answers
pub mod Cursors
