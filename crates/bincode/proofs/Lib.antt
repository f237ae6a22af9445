mod Examples
pub mod Rules
pub mod Found
pub mod Cursors
