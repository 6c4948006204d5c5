mod Fields
mod Cuts
mod Causes
mod Continued
mod BadLines
mod Sets
mod Keys
mod Keeping
mod Lengths
mod Places
mod Identifiers
mod Sessions
mod Planned
mod Filing
mod Apart
pub mod Distincts
mod ReadBack
pub mod LastInstance
mod Entries
pub mod Listed
pub mod Texts
pub mod Public
