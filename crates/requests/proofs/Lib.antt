pub mod Search
pub mod Twins
pub mod Found
pub mod Order
pub mod Request
