pub mod DrillCatalog
pub mod DrillTaking
pub mod Drilling
