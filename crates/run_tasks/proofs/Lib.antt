pub mod AtEnd
pub mod Complete
pub mod Public
