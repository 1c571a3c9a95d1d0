pub mod Areas
pub mod Divided
pub mod Halving
pub mod Masks
pub mod Quadratic
