pub mod Agreement
pub mod Unbounded
