pub mod Numbers
pub mod Signatures
