pub mod EventLines
pub mod Hearing
pub mod Refusing
