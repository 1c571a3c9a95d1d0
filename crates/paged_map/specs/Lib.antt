pub mod Answers
pub mod Maps
pub mod Edits
pub mod Spots
pub mod Drafts
pub mod Lookups
pub mod Heights
