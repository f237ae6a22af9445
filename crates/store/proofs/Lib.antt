pub mod Words
pub mod Rounds
pub mod Authorities
pub mod Checked
