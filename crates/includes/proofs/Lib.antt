pub mod Tests
pub mod Comparing
pub mod Including
