pub mod Gives
pub mod SymbolIds
pub mod Times
pub mod Datagram
pub mod Schedule
pub mod Belonging
pub mod Inner
