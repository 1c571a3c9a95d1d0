pub mod Joins
pub mod Marks
pub mod Once
pub mod Pairs
