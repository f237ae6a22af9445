pub mod Cleanup
