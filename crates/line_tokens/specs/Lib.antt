pub mod Literal
pub mod Seen
pub mod Token
