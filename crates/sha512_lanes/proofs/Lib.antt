pub mod Words
pub mod Schedule
pub mod Ending
pub mod LongRows
mod Batches
mod Absorbing
mod Fours
