pub mod Checksum
pub mod Object
pub mod Reading
pub mod Causes
