pub mod Scan
pub mod Text
pub mod Lookup
