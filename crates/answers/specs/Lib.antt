pub mod Fedjel
pub mod Answers
