pub mod Each
pub mod EachNumber
pub mod Gathering
pub mod Members
pub mod OneOutcome
pub mod Sizes
pub mod SomeOutcome
