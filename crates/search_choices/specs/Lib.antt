-- The definitions of this crate, whose rules are in `docs/selection.md`, "What satisfies world", "Which
-- selection is taken", and "How the search works".

-- re-exported crates: a crate that depends on this one can use their definitions without depending on them too
pub use Rattle.search_needs.specs.search_tables as search_tables
pub use Rattle.search_needs.specs.candidate_core as candidate_core
-- cited by the contracts of this crate's calls
pub mod Choices
-- used by contracts of private calls only
pub mod ExcluderSearch
