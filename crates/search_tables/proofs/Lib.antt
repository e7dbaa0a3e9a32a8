-- re-exported crates: a crate that depends on this one can use their definitions without depending on them too
pub use Rattle.pool_core.proofs as pool_core
pub use Rattle.pool_core.proofs.candidate_core as candidate_core
pub mod Theory
pub mod Turns
pub mod PoolFacts
pub mod Marks
pub mod Members
pub mod Satisfying
pub mod ListLoops
pub mod Queued
pub mod NameTables
pub mod ConflictTables
pub mod Places
pub mod ByteOrder
pub mod Excluders
