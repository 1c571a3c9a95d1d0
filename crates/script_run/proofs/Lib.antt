mod Asking
mod Causes
mod Ends
mod Feeding
pub mod Fronts
mod Going
mod Lines
mod Replies
mod Runs
mod Saying
mod Standing
pub mod Reading
pub mod Untouched
