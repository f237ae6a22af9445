pub mod Inverse
pub mod Spans
pub mod Numbers
pub mod Rules
pub mod Blocks
pub mod Commits
pub mod RoundTrips
pub mod Wholes
