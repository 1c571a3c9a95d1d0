pub mod Contents
pub mod Held
pub mod Opening
pub mod Store
pub mod Superblock
pub mod Takes
