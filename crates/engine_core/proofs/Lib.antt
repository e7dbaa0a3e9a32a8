-- re-exported crates: a crate that depends on this one can use their definitions without depending on them too
pub use Rattle.change_report.proofs.candidate_core as candidate_core
pub use Rattle.change_report.proofs.change_inputs as change_inputs
pub use Rattle.change_report.proofs.change_outcome as change_outcome
pub use Rattle.change_report.proofs.db_core as db_core
pub use Rattle.change_report.proofs.file_owners as file_owners
pub use Rattle.change_report.proofs.journal_core as journal_core
pub use Rattle.change_report.proofs.journal_intent as journal_intent
pub use Rattle.change_report.proofs.own_core as own_core
pub use Rattle.change_report.proofs.search_tables as search_tables
pub mod Choices
pub mod Early
pub mod Known
pub mod Lists
pub mod Once
pub mod Pools
pub mod SelectedRuns
pub mod WholeRuns
pub mod Members
pub mod Reporting
pub mod Sources
pub mod SpoiledPackages
pub mod Carries
pub mod Elements
pub mod Written
pub mod Found
pub mod Counted
pub mod PlanSteps
pub mod Made
pub mod Worked
