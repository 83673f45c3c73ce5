pub mod Places
pub mod Long
pub mod Puts
