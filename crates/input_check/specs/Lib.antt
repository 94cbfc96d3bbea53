pub mod Host
pub mod Report
