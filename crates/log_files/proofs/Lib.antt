mod Steps
pub mod Kept
mod Levels
mod Separate
mod TileNames
mod Apart
pub mod OwnNames
mod FullNames
pub mod HeadLast
