-- re-exported crates: a crate that depends on this one can use their definitions without depending on them too
pub use Rattle.change_report.specs.adb_sound as adb_sound
pub use Rattle.change_report.specs.candidate_core as candidate_core
pub use Rattle.change_report.specs.change_inputs as change_inputs
pub use Rattle.change_report.specs.change_outcome as change_outcome
pub use Rattle.change_report.specs.db_core as db_core
pub use Rattle.change_report.specs.file_owners as file_owners
pub use Rattle.change_report.specs.journal_core as journal_core
pub use Rattle.change_report.specs.journal_intent as journal_intent
pub use Rattle.change_report.specs.make_info as make_info
pub use Rattle.change_report.specs.own_core as own_core
pub use Rattle.change_report.specs.package_changes as package_changes
pub use Rattle.change_report.specs.path_claims as path_claims
pub use Rattle.change_report.specs.path_clashes as path_clashes
pub use Rattle.change_report.specs.search_tables as search_tables
pub use Rattle.change_report.specs.v2_core as v2_core
pub use Rattle.journal_staging.specs.adb_fields as adb_fields
pub use Rattle.journal_staging.specs.adb_schema as adb_schema
pub use Rattle.journal_staging.specs.journal_commit as journal_commit
-- modules that the contract of `apk` cites
pub mod Choice
pub mod Selecting
pub mod Wishes
pub mod Changed
pub mod ChangeRun
-- modules that only inner contracts and proofs use
pub mod Chosen
pub mod Runs
pub mod SelectionSeen
pub mod Plans
pub mod Writing
pub mod Preparing
pub mod Rendering
pub mod Committing
