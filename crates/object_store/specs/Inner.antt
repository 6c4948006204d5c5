pub mod Codes
pub mod BlockHeld
pub mod BlockRows
pub mod ObjectHeld
pub mod ObjectParts
pub mod Objects
pub mod Judged
