-- re-exported crates: a crate that depends on this one can use their definitions without depending on them too
pub use Rattle.change_outcome.specs as change_outcome
pub use Rattle.change_outcome.specs.adb_sound as adb_sound
pub use Rattle.change_outcome.specs.candidate_core as candidate_core
pub use Rattle.change_outcome.specs.change_inputs as change_inputs
pub use Rattle.change_outcome.specs.db_core as db_core
pub use Rattle.change_outcome.specs.journal_core as journal_core
pub use Rattle.change_outcome.specs.journal_intent as journal_intent
pub use Rattle.change_outcome.specs.package_changes as package_changes
pub use Rattle.change_outcome.specs.search_tables as search_tables
pub use Rattle.change_outcome.specs.v2_core as v2_core
pub use Rattle.package_files.specs as package_files
pub use Rattle.package_files.specs.make_info as make_info
pub use Rattle.own_core.specs as own_core
pub use Rattle.own_core.specs.file_owners as file_owners
pub use Rattle.own_core.specs.path_claims as path_claims
pub use Rattle.own_core.specs.path_clashes as path_clashes
-- modules that the contracts of this crate cite
pub mod Reported
pub mod Due
-- modules that only inner contracts and proofs use
pub mod Notices
