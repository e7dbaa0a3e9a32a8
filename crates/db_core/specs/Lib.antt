-- The definitions of this crate, whose rules are in `docs/formats.md`, "Schemas" and "The
-- database after a change".

-- re-exported crates: a crate that depends on this one can use their definitions without depending on them too
pub use Rattle.adb_sound.specs as adb_sound
pub use Rattle.adb_sound.specs.adb_write as adb_write
pub use Rattle.pkg_core.specs as pkg_core
pub use Rattle.pkg_core.specs.adb_fields as adb_fields
pub use Rattle.pkg_core.specs.adb_schema as adb_schema
-- what the contract of `apk` says
pub mod Members
pub mod NewDatabase
pub mod Packages
-- what only inner contracts and proofs use
pub mod EntrySeen
pub mod Information
pub mod ListedAt
pub mod NamePlaces
pub mod NameSeen
pub mod OwnedListings
pub mod Seen
pub mod SoundMembers
pub mod Unchanged
