pub mod Doc
pub mod Promises
