pub mod Named
pub mod Sets
pub mod Splits
pub mod Shared
pub mod Tables
pub mod Held
