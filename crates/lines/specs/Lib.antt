pub mod Slip
pub mod Facts
pub mod Cover
pub mod Examples
