pub mod Records
pub mod CoverStatus
pub mod Reply
pub mod Writing
pub mod Examples
pub mod Refusals
pub mod CoverExamples
