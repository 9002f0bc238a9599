pub mod Encoding
pub mod Said
pub mod Writing
pub mod Reading
pub mod Forms
