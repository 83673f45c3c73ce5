pub mod Session
pub mod Message
pub mod Pieces
pub mod Covers
