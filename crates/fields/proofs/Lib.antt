pub mod Numbers
pub mod Byte
pub mod FirstKind
