pub mod PrintingLaws
pub mod InputLaws
