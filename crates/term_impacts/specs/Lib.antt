pub mod Form
pub mod Impacts
pub mod Label
pub mod Left
pub mod Pairs
pub mod Tally
pub mod Text
