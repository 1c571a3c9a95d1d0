pub mod Choices
pub mod Splits
pub mod Words
