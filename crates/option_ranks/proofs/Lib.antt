-- re-exported crates: a crate that depends on this one can use their definitions without depending on them too
pub use Rattle.candidate_core.proofs as candidate_core
pub mod RankOrder
pub mod MovedMembers
pub mod CountedRanks
pub mod RankedVersions
pub mod RankedOptions
pub mod ListedVersions
