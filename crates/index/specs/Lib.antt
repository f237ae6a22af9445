pub mod Keys
pub mod Summary
