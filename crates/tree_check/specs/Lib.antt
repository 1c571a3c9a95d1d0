pub mod Damages
pub mod Nodes
pub mod Walks
pub mod Agreement
pub mod Columns
pub mod Names
pub mod Laws
pub mod Sizes
