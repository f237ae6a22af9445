pub mod Committee
