pub mod Chains
pub mod Descending
pub mod Rounds
pub mod Searching
pub mod Going
pub mod Answering
