mod Holding
pub mod Sealed
pub mod Tables
