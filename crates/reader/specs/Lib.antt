pub mod Forms
pub mod Fields
pub mod Commands
pub mod Tokens
pub mod Check
pub mod Reading
pub mod Ascii
pub mod Promises
