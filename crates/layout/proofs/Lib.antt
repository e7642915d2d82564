pub mod Steps
pub mod HeadPlaces
pub mod HeadLaws
pub mod DecLaws
pub mod Dropping
pub mod Knot
pub mod Exact
pub mod AnyKinds
