pub mod Refusals
pub mod Tabled
