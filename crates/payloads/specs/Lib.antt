pub mod Small
pub mod Request13
