-- The definitions of this crate, whose rules are in `docs/formats.md`, "Dump text".

-- re-exported crates: a crate that depends on this one can use their definitions without depending on them too
pub use Rattle.adb_schema.specs as adb_schema
-- cited by the contract of `apk`
pub mod Dump
pub mod ReadBack
-- used by inner contracts and proofs only
pub mod Values
pub mod Words
pub mod Margin
pub mod Out
