pub mod Body
pub mod Mended
pub mod Removal
pub mod Looks
