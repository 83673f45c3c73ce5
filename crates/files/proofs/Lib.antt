pub mod Lines
pub mod Says
pub mod Within
pub mod Refusals
