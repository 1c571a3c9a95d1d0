pub mod Ahead
pub mod Stands
pub mod Updates
