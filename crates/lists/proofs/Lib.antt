pub mod Ascent
pub mod Halves
pub mod Known
pub mod Member
