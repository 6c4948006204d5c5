pub mod Information
pub mod Scheme
pub mod Partition
pub mod Sent
pub mod Faults
pub mod Wire
