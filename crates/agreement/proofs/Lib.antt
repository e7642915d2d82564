pub mod Layouts
pub mod Looks
pub mod Helpers
pub mod Rows
pub mod Knot
