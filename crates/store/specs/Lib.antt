pub mod Store
pub mod Views
