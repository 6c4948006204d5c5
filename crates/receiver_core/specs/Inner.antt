pub mod Lists
pub mod Candidates
pub mod Choice
pub mod Drops
pub mod Standings
pub mod Waiting
pub mod Settling
