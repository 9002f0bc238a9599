pub mod Randomness
pub use Rattle.slh_host.specs.LogHeads
pub use Rattle.slh_host.specs.LogTold
pub use Rattle.slh_host.specs.LogVerdicts
pub use Rattle.slh_host.specs.Rings
pub use Rattle.slh_host.specs.Sets
pub use Rattle.slh_host.specs.Texts
