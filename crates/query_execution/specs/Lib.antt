pub mod Asked
pub mod Answers
pub mod Standing
pub mod Opened
pub mod Damages
pub mod Holders
