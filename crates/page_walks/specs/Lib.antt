pub mod Met
pub mod Misuse
pub mod Chains
pub mod Beneath
pub mod Leaves
pub mod Maps
pub mod Walks
pub mod Sizes
