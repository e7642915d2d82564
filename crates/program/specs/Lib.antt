pub mod Program
pub mod Printing
pub mod Promises
