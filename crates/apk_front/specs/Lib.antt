-- re-exported crates: a crate that depends on this one can use their definitions without depending on them too
pub use Rattle.adb_dump.specs.adb_schema as adb_schema
pub use Rattle.engine_core.specs as engine_core
pub use Rattle.engine_core.specs.change_outcome as change_outcome
pub use Rattle.engine_core.specs.package_changes as package_changes
pub use Rattle.journal_core.specs as journal_core
pub use Rattle.journal_core.specs.journal_intent as journal_intent
pub use Rattle.make_core.specs as make_core
pub use Rattle.make_core.specs.make_info as make_info
pub use Rattle.outcome.specs as outcome
pub use Rattle.tell_core.specs.change_inputs as change_inputs
pub use Rattle.tell_core.specs.path_clashes as path_clashes
pub use Rattle.words_core.specs as words_core
-- modules that the contract of `apk` cites, in the order in which they are best read
pub mod Answers
pub mod Moments
-- modules that only inner contracts and proofs use
pub mod Status
pub mod Verdicts
pub mod Runs
pub mod RunContracts
pub mod Containers
pub mod Told
pub mod Effects
pub mod DemoRuns
