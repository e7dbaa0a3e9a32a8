-- re-exported crates: a crate that depends on this one can use their definitions without depending on them too
pub use Rattle.engine_core.specs as engine_core
pub use Rattle.engine_core.specs.change_outcome as change_outcome
pub use Rattle.engine_core.specs.db_core as db_core
pub use Rattle.engine_core.specs.journal_core as journal_core
pub use Rattle.engine_core.specs.journal_intent as journal_intent
pub use Rattle.engine_core.specs.own_core as own_core
pub use Rattle.engine_core.specs.package_changes as package_changes
pub use Rattle.engine_core.specs.search_tables as search_tables
pub use Rattle.gen_core.specs as gen_core
pub use Rattle.gen_core.specs.adb_dump as adb_dump
pub use Rattle.gen_core.specs.adb_schema as adb_schema
pub use Rattle.gen_core.specs.adb_write as adb_write
pub use Rattle.make_core.specs as make_core
pub use Rattle.make_core.specs.adb_fields as adb_fields
pub use Rattle.make_core.specs.make_info as make_info
pub use Rattle.make_core.specs.package_files as package_files
pub use Rattle.make_core.specs.pkg_core as pkg_core
pub use Rattle.tell_core.specs as tell_core
pub use Rattle.tell_core.specs.adb_sound as adb_sound
pub use Rattle.tell_core.specs.audit_core as audit_core
pub use Rattle.tell_core.specs.candidate_core as candidate_core
pub use Rattle.tell_core.specs.change_inputs as change_inputs
pub use Rattle.tell_core.specs.file_owners as file_owners
pub use Rattle.tell_core.specs.path_claims as path_claims
pub use Rattle.tell_core.specs.path_clashes as path_clashes
pub use Rattle.tell_core.specs.query_core as query_core
pub use Rattle.tell_core.specs.v2_core as v2_core
pub use Rattle.words_core.specs as words_core
-- modules that the contract of `apk` cites, in the order in which they are best read
pub mod Outcome
pub mod Words
pub mod Commands
pub mod Effect
pub mod Work
pub mod Version
pub mod Verify
pub mod Dump
pub mod Generate
pub mod Make
pub mod OutcomeOfReport
pub mod Changing
pub mod Given
pub mod Demo
pub mod DemoCount
pub mod DemoLines
pub mod DemoReport
-- modules that only inner contracts and proofs use
pub mod ChangeEnd
pub mod Recovers
pub mod Sound
