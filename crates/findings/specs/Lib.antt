pub mod Findings
pub mod Codes
pub mod Naming
pub mod Answers
pub mod Faults
pub mod Before
