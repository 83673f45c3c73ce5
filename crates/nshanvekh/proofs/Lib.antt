pub mod Sessions
pub mod Messages
pub mod ByPieces
pub mod Refusals
pub mod CoverCalls
