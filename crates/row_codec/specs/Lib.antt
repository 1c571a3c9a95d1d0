pub mod Counted
pub mod Pairs
pub mod Stored
