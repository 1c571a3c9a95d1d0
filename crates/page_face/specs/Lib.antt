pub mod Calls
pub mod Causes
pub mod Cells
pub mod FreeList
pub mod Memory
pub mod Nodes
pub mod Number
pub mod Sound
