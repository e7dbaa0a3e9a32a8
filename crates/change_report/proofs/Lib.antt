-- re-exported crates: a crate that depends on this one can use their definitions without depending on them too
pub use Rattle.change_outcome.proofs as change_outcome
pub use Rattle.change_outcome.proofs.candidate_core as candidate_core
pub use Rattle.change_outcome.proofs.change_inputs as change_inputs
pub use Rattle.change_outcome.proofs.db_core as db_core
pub use Rattle.change_outcome.proofs.journal_core as journal_core
pub use Rattle.change_outcome.proofs.journal_intent as journal_intent
pub use Rattle.change_outcome.proofs.package_changes as package_changes
pub use Rattle.change_outcome.proofs.search_tables as search_tables
pub use Rattle.change_outcome.proofs.solve_core as solve_core
pub use Rattle.package_files.proofs.make_info as make_info
pub use Rattle.own_core.proofs as own_core
pub use Rattle.own_core.proofs.file_owners as file_owners
mod PathOrder
mod PatternParts
pub mod Loops
mod Watching
