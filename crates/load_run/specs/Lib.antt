pub mod Loading
pub mod Asking
pub mod Making
