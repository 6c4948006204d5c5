pub mod Addresses
pub mod Inner
pub mod Numbers
pub mod Pairs
pub mod Shape
pub mod Table
pub mod Words
