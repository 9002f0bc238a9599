pub mod Handed
pub mod Streams
pub mod TwoBlocks
pub mod Reading
pub mod Serials
