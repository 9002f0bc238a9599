pub mod Names
pub mod Tiles
pub mod Shape
pub mod Source
pub mod Entries
