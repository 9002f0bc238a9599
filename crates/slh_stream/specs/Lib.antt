pub mod Verifying
pub mod Passes
pub mod Digests
pub mod Digesting
pub mod Suspended
pub mod SuspendedPass
