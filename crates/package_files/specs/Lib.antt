-- The definitions of this crate, whose rules are in `docs/commands.md`, "`mkpkg`", and in
-- `docs/formats.md`, "The other blocks".

-- re-exported, so that a crate that uses this one need not name these crates
pub use Rattle.adb_sound.specs as adb_sound
pub use Rattle.adb_sound.specs.adb_schema as adb_schema
pub use Rattle.adb_sound.specs.adb_write as adb_write
pub use Rattle.adb_sound.specs.pkg_core as pkg_core
pub use Rattle.make_info.specs as make_info
pub use Rattle.make_info.specs.adb_values as adb_values
-- cited by the contract of `apk`
pub mod Folders
pub mod Package
pub mod Sources
pub mod Runs
-- used only by contracts of inner functions, and by proofs
pub mod Packed
pub mod Blocks
pub mod BorrowedNames
