pub mod Crash
pub mod Memory
pub mod MemorySource
pub mod Plan
pub mod Replay
pub mod Source
pub mod Stored
pub mod World
