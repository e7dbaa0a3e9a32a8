-- re-exported crates: a crate that depends on this one can use their definitions without depending on them too
pub use Rattle.db_core.specs as db_core
pub use Rattle.file_guard.specs as file_guard
pub use Rattle.path_clashes.specs as path_clashes
pub use Rattle.path_clashes.specs.adb_fields as adb_fields
-- what the contract of `apk` says
pub mod Records
pub mod Audit
pub mod Manifest
-- what only the laws say
pub mod Differences
-- what only inner contracts and proofs use
pub mod StoredRecords
pub mod Seen
