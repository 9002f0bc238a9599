pub mod Accepting
pub mod Reports
pub mod Signing
