pub mod FirstKind
pub mod Accounts
