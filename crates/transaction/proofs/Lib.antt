pub mod Steps
pub mod Shares
pub mod Transactions
pub mod Named
