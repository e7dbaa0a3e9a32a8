-- re-exported crates: a crate that depends on this one can use their definitions without depending on them too
pub use Rattle.file_guard.specs as file_guard
pub use Rattle.file_guard.specs.adb_fields as adb_fields
pub use Rattle.file_guard.specs.adb_schema as adb_schema
pub use Rattle.file_guard.specs.pkg_core as pkg_core
pub use Rattle.package_verifier.specs as package_verifier
pub use Rattle.journal_commit.specs as journal_commit
-- modules that the contract of `apk` cites
pub mod Spoiled
-- modules that only contracts of inner functions and proofs cite
pub mod Reading
pub mod Sources
pub mod SourceStaging
pub mod Carried
