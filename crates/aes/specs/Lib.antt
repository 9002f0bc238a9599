pub mod Field
pub mod Table
pub mod Block
pub mod Schedule
pub mod Cipher
pub mod Cbc
pub mod Bytes
