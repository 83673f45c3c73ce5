pub mod Account
pub mod Examples
