pub mod Searches
pub mod TreePicks
pub mod Agreements
pub mod Firsts
pub mod Opened
