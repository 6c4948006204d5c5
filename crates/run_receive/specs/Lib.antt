pub mod Events
pub mod HasTaken
pub mod Outcome
pub mod Showings
pub mod Texts
