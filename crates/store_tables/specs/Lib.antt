pub mod Broken
pub mod Coded
pub mod Entries
pub mod Holding
pub mod Words
pub mod Rows
