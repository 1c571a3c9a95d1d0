pub mod OneReading
pub mod Reading
pub mod Rounding
pub mod Scaling
pub mod Scanning
pub mod Writing
