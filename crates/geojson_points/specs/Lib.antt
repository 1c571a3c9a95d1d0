pub mod Object
pub mod Feature
pub mod Takes
pub mod Draft
pub mod Gathered
