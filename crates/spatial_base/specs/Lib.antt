pub mod Key
pub mod Laws
pub mod Point
pub mod Rect
pub mod Root
pub mod RootLaws
