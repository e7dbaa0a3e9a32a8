-- The definitions of `gen_core`. The head of each file says where its rule is.

-- re-exported crates: a crate that depends on this one can use their definitions without depending on them too
pub use Rattle.adb_dump.specs as adb_dump
pub use Rattle.adb_dump.specs.adb_schema as adb_schema
pub use Rattle.adb_values.specs.adb_write as adb_write
-- cited by the contract of `apk`
pub mod Generated
-- cited by the laws
pub mod Dumps
-- used by inner contracts and proofs only
pub mod Cursors
pub mod Reads
pub mod Quoted
