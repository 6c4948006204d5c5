pub mod Word
pub mod Extensions
pub mod Faults
