pub mod Kinds
pub mod Codes
pub mod Faultless
pub mod Examples
pub mod Debits
pub mod Bars
