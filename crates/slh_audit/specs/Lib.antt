pub mod Evidence
pub mod Places
pub mod Verdicts
