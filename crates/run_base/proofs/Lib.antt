pub mod AtEnd
pub mod Lists
pub mod Parts
pub mod Public
