mod Words
pub mod Schedule
pub mod Folding
pub mod Ending
mod Vectors
mod EightWords
mod Windows
mod EightHashes
mod LongRows
mod Batches
pub mod Digest
mod Fours
