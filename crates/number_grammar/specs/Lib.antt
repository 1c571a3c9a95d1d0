pub mod Cut
pub mod Number
pub mod Stages
pub mod Tests
