-- The definitions of this crate, whose rules are in `docs/commands.md`, "What a change does
-- with files".

-- re-exported crates: a crate that depends on this one can use their definitions without depending on them too
pub use Rattle.file_guard.specs as file_guard
pub use Rattle.file_guard.specs.adb_schema as adb_schema
pub use Rattle.file_owners.specs as file_owners
pub use Rattle.file_owners.specs.db_core as db_core
pub use Rattle.path_claim_lists.specs.path_claims as path_claims
pub use Rattle.path_clashes.specs as path_clashes
pub use Rattle.path_clashes.specs.adb_fields as adb_fields
-- modules that the contract of `apk` cites
pub mod FileChange
pub mod Fate
pub mod FilesAfter
pub mod NamesAfter
pub mod PlanLists
-- modules that the contracts of the public functions of this crate cite
pub mod WritesSeen
pub mod Planned
pub mod ClaimEntries
pub mod Sides
pub mod Fates
pub mod Going
pub mod Found
pub mod Parts
-- modules that only contracts of inner functions and proofs cite
pub mod Divided
pub mod NamesChanged
pub mod ListsSeen
pub mod FaultsSeen
pub mod Touched
