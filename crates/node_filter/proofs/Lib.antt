pub mod Rows
pub mod Marking
pub mod Admissions
pub mod Weighed
pub mod Agreements
pub mod Places
