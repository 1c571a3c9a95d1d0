pub mod Acked
pub mod Prefix
pub mod Run
pub mod Transcript
pub mod Upgrade
pub mod Verify
