pub mod Made
pub mod Makers
