pub mod Applied
pub mod Keys
pub mod Examples
pub mod Sets
