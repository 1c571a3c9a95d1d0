pub mod Crashes
pub mod Moments
mod Pieces
pub mod Replays
mod Results
