mod Begun
mod Agreeing
pub mod Refused
