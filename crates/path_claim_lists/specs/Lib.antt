-- The definitions of this crate, whose rules are in `docs/commands.md`, "Files that several
-- packages list".

-- re-exported crates: a crate that depends on this one can use their definitions without depending on them too
pub use Rattle.path_claims.specs as path_claims
pub use Rattle.path_claims.specs.adb_fields as adb_fields
pub use Rattle.path_clashes.specs as path_clashes
-- modules that only contracts of inner functions and proofs cite
pub mod Once
pub mod Named
