pub mod Known
pub mod Numbers
pub mod Shown
pub mod Order
pub mod Carrying
pub mod Version1
