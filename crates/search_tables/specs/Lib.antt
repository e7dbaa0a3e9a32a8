-- The definitions of this crate, whose rules are in `docs/selection.md`, "What satisfies world", "Which
-- selection is taken", and "How the search works".

-- re-exported crates: a crate that depends on this one can use their definitions without depending on them too
pub use Rattle.pool_core.specs.candidate_core as candidate_core
-- cited by the contract of `apk`
pub mod Selection
-- used by proofs only
pub mod Reasons
pub mod Queue
pub mod NameTable
pub mod InstallIf
pub mod Conflicts
pub mod Excluders
pub mod CandidateSet
