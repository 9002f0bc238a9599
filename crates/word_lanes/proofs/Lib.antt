pub mod Words
pub mod Vectors
pub mod Windows
pub mod Blocks
