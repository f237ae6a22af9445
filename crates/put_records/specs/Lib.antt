pub mod Put
pub mod Votes
