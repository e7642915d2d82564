-- What only contracts use: no definition of 01 or 02 is here.
pub mod Reach
pub mod Extents
pub mod Answers
