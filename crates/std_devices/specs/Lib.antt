pub mod Untold
pub mod FileCalls
pub mod Opened
