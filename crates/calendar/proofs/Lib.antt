pub mod Numbers
pub mod Years
pub mod Dates
pub mod Next
pub mod Order
pub mod Reached
pub mod Workdays
