-- re-exported crates: a crate that depends on this one can use their definitions without depending on them too
pub use Rattle.candidate_core.specs as candidate_core
pub use Rattle.candidate_core.specs.adb_fields as adb_fields
pub use Rattle.candidate_core.specs.adb_schema as adb_schema
-- used by contracts and proofs only
pub mod Ranking
pub mod VersionRanks
