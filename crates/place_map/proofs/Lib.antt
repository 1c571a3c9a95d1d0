pub mod Effects
pub mod Nears
pub mod Picks
pub mod Relevance
pub mod Rising
pub mod Scans
