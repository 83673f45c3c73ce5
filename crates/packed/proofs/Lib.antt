pub mod Little
pub mod Parts
pub mod Fields
pub mod RoundTrip
pub mod Taking
