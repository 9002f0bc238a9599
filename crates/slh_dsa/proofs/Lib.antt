mod KeyParts
mod Accepted
pub mod Equality
