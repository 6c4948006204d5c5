pub mod Histories
pub mod Hubs
pub mod Machine
pub mod Inner
