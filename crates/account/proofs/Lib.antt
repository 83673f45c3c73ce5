pub mod Halves
pub mod AsBefore
