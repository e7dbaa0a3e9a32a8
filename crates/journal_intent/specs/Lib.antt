-- re-exported crates: a crate that depends on this one can use their definitions without depending on them too
pub use Rattle.adb_sound.specs.adb_fields as adb_fields
pub use Rattle.adb_sound.specs.adb_schema as adb_schema
pub use Rattle.adb_sound.specs.adb_write as adb_write
-- The definitions of this crate. Each file names the document with its rule.
-- modules that the contract of `apk` cites
pub mod Intent
pub mod IntentValue
pub mod FreeNames
