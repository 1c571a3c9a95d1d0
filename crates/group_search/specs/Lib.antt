pub mod Choices
pub mod Joins
pub mod Blocks
pub mod Picks
pub mod Tried
pub mod Fronts
pub mod Leads
