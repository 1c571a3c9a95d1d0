pub mod Masks
pub mod Numbers
pub mod Filters
pub mod Entries
pub mod Hits
pub mod Rows
