pub mod Digit
pub mod Value
pub mod Figures
pub mod At
