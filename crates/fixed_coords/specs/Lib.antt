pub mod Degrees
pub mod Fixed
pub mod Placed
pub mod Spelled
