-- re-exported crates: a crate that depends on this one can use their definitions without depending on them too
pub use Rattle.change_inputs.specs as change_inputs
pub use Rattle.change_inputs.specs.candidate_core as candidate_core
pub use Rattle.change_inputs.specs.make_info as make_info
pub use Rattle.change_inputs.specs.package_files as package_files
pub use Rattle.change_inputs.specs.v2_core as v2_core
pub use Rattle.db_core.specs as db_core
pub use Rattle.db_core.specs.adb_fields as adb_fields
pub use Rattle.db_core.specs.adb_schema as adb_schema
pub use Rattle.db_core.specs.adb_sound as adb_sound
pub use Rattle.db_core.specs.adb_write as adb_write
pub use Rattle.journal_core.specs as journal_core
pub use Rattle.journal_core.specs.journal_intent as journal_intent
pub use Rattle.package_changes.specs as package_changes
pub use Rattle.package_changes.specs.file_owners as file_owners
pub use Rattle.package_changes.specs.own_core as own_core
pub use Rattle.package_changes.specs.search_tables as search_tables
pub use Rattle.root_names.specs as root_names
pub use Rattle.star_patterns.specs as star_patterns
-- modules that the contract of `apk` cites
pub mod Arrivals
pub mod ChangeOutcome
pub mod ConfigurationLines
pub mod MembersAfter
pub mod PackageFiles
pub mod Triggers
-- modules that the laws of this crate cite
pub mod Premises
pub mod Made
pub mod Leading
-- what only inner contracts and proofs use
pub mod Answered
pub mod NameReads
pub mod Told
