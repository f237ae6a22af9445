pub mod Stores
pub mod Tables
