pub mod Fits
pub mod Drafts
pub mod Grown
pub mod Parts
pub mod Ways
pub mod Roots
