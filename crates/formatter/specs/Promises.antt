-- What only contracts use: no definition of 01 or 02 is here.
pub mod Lookup
pub mod WalkFirst
pub mod Judging
