-- What only contracts use: no definition of 01 or 02 is here.
pub mod Commands
pub mod Tokens
pub mod Grammar
pub mod Tree
pub mod Reading
