pub mod Bytes
pub mod FirstFault
pub mod Below
pub mod Rows
