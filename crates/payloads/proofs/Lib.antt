pub mod Values
pub mod Order
pub mod Again
pub mod Lines
pub mod Request13
pub mod Examples
