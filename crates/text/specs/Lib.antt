pub mod Clipped
pub mod Digits
pub mod Columns
pub mod Put
