-- The definitions of this crate, whose rules are in `docs/selection.md`, "What satisfies world", "Which
-- selection is taken", and "How the search works".

-- re-exported crates: a crate that depends on this one can use their definitions without depending on them too
pub use Rattle.search_choices.specs.candidate_core as candidate_core
pub use Rattle.search_choices.specs.search_tables as search_tables
-- used by proofs only
pub mod Measure
pub mod Clauses
pub mod Underway
