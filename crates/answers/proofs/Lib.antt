pub mod Form
pub mod Codes
pub mod Right
pub mod Order
