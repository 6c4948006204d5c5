pub mod Fills
pub mod Items
pub mod LogLaws
pub mod LogWrites
pub mod Reading
pub mod Short
pub mod Texts
