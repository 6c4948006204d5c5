pub mod Best
pub mod BestOf
pub mod InstanceOf
pub mod SessionPackets
pub mod Classes
pub mod Receiver
pub mod Inner
