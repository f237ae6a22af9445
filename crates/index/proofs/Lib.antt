pub mod BigEndian
pub mod Existence
pub mod Prefixes
