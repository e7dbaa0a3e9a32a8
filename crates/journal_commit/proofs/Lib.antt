-- re-exported crates: a crate that depends on this one can use their definitions without depending on them too
pub use Rattle.journal_core.proofs as journal_core
pub mod Asked
pub mod Counted
pub mod Empty
pub mod Ends
pub mod Finish
pub mod JoinedParts
pub mod Joins
pub mod Leads
pub mod NewFilePieces
pub mod Proper
pub mod Returned
pub mod Settle
pub mod Stays
pub mod Suffix
pub mod Waits
pub mod Ways
pub mod Written
