pub mod Dots
pub mod Matches
pub mod Parser
pub mod Scan
