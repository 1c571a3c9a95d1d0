pub mod KeyForms
pub mod KeyOrder
pub mod Names
pub mod Rects
