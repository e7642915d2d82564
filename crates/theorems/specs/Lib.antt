pub mod Demands
pub mod Stops
pub mod Ascii
pub mod AsciiDoc
pub mod AsciiProgram
