pub mod Ascending
pub mod Distinct
pub mod Rarities
pub mod Rows
pub mod Serials
