-- re-exported crates: a crate that depends on this one can use their definitions without depending on them too
pub use Rattle.option_ranks.specs as option_ranks
pub use Rattle.option_ranks.specs.candidate_core as candidate_core
-- used by contracts and proofs only
pub mod FieldNames
pub mod World
pub mod Marks
pub mod PoolMatches
