pub mod Counts
pub mod Fronts
pub mod Going
pub mod Lists
pub mod Reading
pub mod Rooms
pub mod Saying
