-- re-exported crates: a crate that depends on this one can use their definitions without depending on them too
pub use Rattle.search_tables.proofs as search_tables
pub use Rattle.search_tables.proofs.candidate_core as candidate_core
pub mod Offered
pub mod RaiserLists
