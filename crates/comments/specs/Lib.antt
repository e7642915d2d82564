pub mod Set
pub mod Above
