pub mod Bytes
pub mod Numbers
pub mod Faults
pub mod Below
pub mod Public
