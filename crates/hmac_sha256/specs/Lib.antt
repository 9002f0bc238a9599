pub mod Hash
pub mod Hmac
pub mod Hkdf
pub mod Mac
pub use Rattle.digest_core.specs.Gen
pub use Rattle.digest_core.specs.Wrapped
