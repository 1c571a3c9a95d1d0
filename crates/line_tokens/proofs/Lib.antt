pub mod Cuts
pub mod Literals
pub mod Pieces
pub mod Said
pub mod Scans
