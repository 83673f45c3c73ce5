pub mod Head
pub mod Foot
pub mod Sums
pub mod Codes
pub mod Judging
pub mod Refusals
pub mod Standing
pub mod Examples
