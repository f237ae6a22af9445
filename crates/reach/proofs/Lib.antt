pub mod Any
pub mod Appending
pub mod Asking
pub mod Reaching
