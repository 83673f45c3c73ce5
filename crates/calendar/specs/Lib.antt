pub mod Calendar
pub mod Workdays
pub mod DateField
pub mod Examples
