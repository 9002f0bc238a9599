pub mod Blocks
pub mod Encoding
pub mod Decoding
