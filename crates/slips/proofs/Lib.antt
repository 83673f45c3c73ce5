pub mod Fed
pub mod Short
pub mod Told
pub mod Whole
