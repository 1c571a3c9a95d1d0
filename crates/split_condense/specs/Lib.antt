pub mod Orphans
pub mod Clears
pub mod Entries
pub mod Updates
