pub mod Row
pub mod ByKind
pub mod Naming
pub mod Faults
pub mod Small
pub mod Before
