-- re-exported crates: a crate that depends on this one can use their definitions without depending on them too
pub use Rattle.journal_intent.specs as journal_intent
pub use Rattle.journal_intent.specs.adb_schema as adb_schema
-- The definitions of this crate. Each file names the document with its rule.
-- modules that the contract of `apk` cites
pub mod Recovery
pub mod Replacing
pub mod Quiet
pub mod Staged
pub mod Kept
-- modules that only contracts of inner functions and proofs cite
pub mod Targets
pub mod Reading
pub mod Filling
pub mod CallCounts
pub mod Committing
pub mod Acting
pub mod Recovering
