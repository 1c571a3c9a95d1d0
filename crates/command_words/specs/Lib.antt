pub mod Command
pub mod Job
pub mod Refusals
