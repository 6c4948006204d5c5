pub mod Orders
pub mod Objects
pub mod Packets
pub mod Once
pub mod Belonging
pub mod Public
