-- What only contracts use: no definition of 01 or 02 is here.
pub mod State
pub mod Lent
pub mod Looks
