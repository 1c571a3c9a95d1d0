pub mod TreePicks
pub mod Searches
pub mod Opened
