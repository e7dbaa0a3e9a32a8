-- The definitions of this crate, whose rules are in `docs/commands.md`, "`mkpkg`" and "`mkndx
-- PACKAGE..`".

-- re-exported, so that a crate that uses this one need not name these crates
pub use Rattle.adb_copy.specs as adb_copy
pub use Rattle.adb_copy.specs.adb_fields as adb_fields
pub use Rattle.adb_copy.specs.adb_write as adb_write
pub use Rattle.make_info.specs as make_info
pub use Rattle.package_files.specs as package_files
pub use Rattle.package_files.specs.adb_sound as adb_sound
pub use Rattle.pkg_core.specs as pkg_core
pub use Rattle.pkg_core.specs.adb_schema as adb_schema
-- cited by the contract of `apk`
pub mod Making
pub mod Entries
pub mod EntryOrder
pub mod Index
-- cited by the laws of this crate
pub mod FilesBelow
pub mod IndexOrder
pub mod Missing
pub mod ReadBack
-- used only by contracts of inner functions, and by proofs: first of `mkpkg`, then of `mkndx`
pub mod Answers
pub mod Scripts
pub mod Files
pub mod Kept
pub mod Views
