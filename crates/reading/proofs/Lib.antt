pub mod Fields
pub mod References
pub mod Parts
pub mod RecordsRead
pub mod MessageRead
pub mod ReadBack
pub mod Refusals
pub mod Beside
