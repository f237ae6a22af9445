pub mod PlainLog
pub mod Cut
