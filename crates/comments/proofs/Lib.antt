pub mod Words
pub mod Eights
pub mod Search
