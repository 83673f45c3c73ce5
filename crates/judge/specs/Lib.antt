pub mod Session
pub mod Inner
pub mod Feeding
pub mod Refusals
