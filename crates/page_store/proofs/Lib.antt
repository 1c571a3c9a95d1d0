pub mod Bytes
pub mod Committed
mod Headers
pub mod Holds
pub mod Kept
mod OpeningReads
pub mod Overlays
