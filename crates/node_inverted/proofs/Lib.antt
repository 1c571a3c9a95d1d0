pub mod Drops
pub mod Lifts
pub mod Drafts
pub mod Gathers
