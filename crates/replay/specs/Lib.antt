pub mod Items
pub mod Rules
pub mod Starts
pub mod Recovery
