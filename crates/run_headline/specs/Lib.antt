pub mod Headline
pub mod LastInstance
pub mod SentSession
pub mod WithinBudget
