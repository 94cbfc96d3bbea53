pub mod Timeout
