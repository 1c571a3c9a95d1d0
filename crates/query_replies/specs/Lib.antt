pub mod Fault
pub mod Found
pub mod Lines
pub mod Parts
pub mod Reply
pub mod Written
