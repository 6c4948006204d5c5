pub mod RowBytes
pub mod Through
pub mod StepCounts
pub mod SourceRow
