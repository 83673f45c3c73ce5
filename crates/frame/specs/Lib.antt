pub mod Records
pub mod Places
pub mod Verdict
pub mod Machine
pub mod Faults
pub mod Sound
