pub mod Secrets
pub mod Outputs
pub use Rattle.slh_bytes.specs.LogHeads
pub use Rattle.slh_bytes.specs.LogTold
pub use Rattle.slh_bytes.specs.LogVerdicts
pub use Rattle.slh_bytes.specs.Rings
pub use Rattle.slh_bytes.specs.Sets
pub use Rattle.slh_bytes.specs.Texts
