pub mod MessageDigest
pub mod Checking
pub mod SignatureParts
pub mod Keys
pub mod Signing
