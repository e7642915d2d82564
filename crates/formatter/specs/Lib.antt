pub mod Verdict
pub mod Lookup
pub mod Accepted
pub mod Promises
