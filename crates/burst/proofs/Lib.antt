pub mod Injective
pub mod Images
pub mod Reading
pub mod Walking
pub mod Limits
pub mod Request11
