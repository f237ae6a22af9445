pub mod Chains
pub mod Linked
