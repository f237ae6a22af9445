pub mod Iterators
pub mod Writers
