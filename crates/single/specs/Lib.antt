pub mod Names
pub mod Single
pub mod Numbers
pub mod Refusals
