-- The definitions of this crate, whose rules are in `docs/commands.md`, "Files that several
-- packages list".

-- re-exported crates: a crate that depends on this one can use their definitions without depending on them too
pub use Rattle.db_core.specs as db_core
pub use Rattle.path_claims.specs as path_claims
-- modules that the contract of `apk` cites
pub mod Replaces
pub mod Owners
-- modules that only contracts of inner functions and proofs cite
pub mod Gathered
pub mod NamedPlaces
pub mod Questions
