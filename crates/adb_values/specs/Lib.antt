-- The definitions of `adb_values`. The head of each file names the section with its rule.

-- re-exported crates: a crate that depends on this one can use their definitions without depending on them too
pub use Rattle.adb_write.specs as adb_write
-- cited by the contracts of this crate's calls, in reading order
pub mod Drafts
pub mod Words
pub mod Written
-- used by inner contracts and proofs only
pub mod LastList
