pub mod Clipped
pub mod Columns
pub mod Digits
pub mod Examples
pub mod Put
