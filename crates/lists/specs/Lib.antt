pub mod Banks
pub mod Known
