pub mod Pick
pub mod Bytes
pub mod Numbers
pub mod Ascii
pub mod Parse
