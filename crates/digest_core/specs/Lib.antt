pub mod Absorbing
pub mod Wrapped
pub mod Oid
pub mod OidRefusals
pub use Rattle.block_buffer.specs.Gen
