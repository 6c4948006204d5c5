pub mod SliceKind
pub mod Slice
pub mod Cut
pub mod Groups
pub mod Faults
pub mod Joins
pub mod Carried
pub mod Inner
