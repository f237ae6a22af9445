pub mod Words
pub mod Long
