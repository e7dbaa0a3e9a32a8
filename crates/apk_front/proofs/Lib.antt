-- re-exported crates: a crate that depends on this one can use their definitions without depending on them too
pub use Rattle.journal_commit.proofs as journal_commit
pub use Rattle.journal_core.proofs as journal_core
pub use Rattle.journal_core.proofs.journal_intent as journal_intent
pub use Rattle.outcome.proofs as outcome
pub mod Judged
pub mod Unplanned
pub mod Unrecovered
pub mod Printing
pub mod Operands
pub mod Dumping
pub mod Generating
pub mod Runs
pub mod Packages
pub mod Containers
pub mod NothingFailed
pub mod Carried
pub mod ReadingRuns
pub mod Named
pub mod Effects
pub mod AfterRecovery
pub mod Behind
pub mod Promised
pub mod VerdictCounts
pub mod EachOutcome
pub mod Changing
pub mod OutcomeOfReport
mod Demos
