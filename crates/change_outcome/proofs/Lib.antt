-- re-exported crates: a crate that depends on this one can use their definitions without depending on them too
pub use Rattle.change_inputs.proofs as change_inputs
pub use Rattle.change_inputs.proofs.candidate_core as candidate_core
pub use Rattle.change_inputs.proofs.v2_core as v2_core
pub use Rattle.db_core.proofs as db_core
pub use Rattle.db_core.proofs.adb_fields as adb_fields
pub use Rattle.journal_core.proofs as journal_core
pub use Rattle.journal_core.proofs.journal_intent as journal_intent
pub use Rattle.package_changes.proofs as package_changes
pub use Rattle.package_changes.proofs.own_core as own_core
pub use Rattle.package_changes.proofs.search_tables as search_tables
pub use Rattle.package_changes.proofs.solve_core as solve_core
pub mod ActionNames
pub mod ArrivalSteps
pub mod Behind
pub mod ChangeLeads
pub mod ChangeNames
pub mod ClashExists
pub mod Emptied
pub mod FreeNames
pub mod LaterReads
pub mod Leading
pub mod Made
pub mod MembersFound
pub mod MembersInOrder
mod NameAnswers
mod NameSteps
mod PackageAnswers
pub mod ReadMembers
pub mod ReadRoot
pub mod Room
mod ToldRefusals
mod Worked
