-- re-exported crates: a crate that depends on this one can use their definitions without depending on them too
pub use Rattle.adb_copy.proofs as adb_copy
pub use Rattle.adb_copy.proofs.adb_fields as adb_fields
pub use Rattle.make_info.proofs as make_info
pub use Rattle.pkg_core.proofs as pkg_core
pub use Rattle.pkg_core.proofs.adb_schema as adb_schema
-- of both
pub mod Reading
-- of `mkpkg`
pub mod ContentSizes
pub mod FileFields
pub mod MadeParts
pub mod MadeRuns
pub mod PackedWorked
pub mod ScriptLemmas
pub mod WriteLemmas
-- of `mkndx`
pub mod EntryPlaces
pub mod IndexAgain
pub mod IndexHeld
pub mod IndexMade
pub mod IndexOrdering
pub mod IndexReads
pub mod IndexSound
pub mod IndexWhole
-- of the laws
pub mod Apart
pub mod Blind
pub mod GoodValues
pub mod IndexEntry
pub mod IndexPackages
pub mod InformationGood
pub mod ListedNames
pub mod MadeIndex
pub mod MadePackage
pub mod MissingFiles
pub mod NameParts
pub mod OpenedPackage
pub mod PackageContents
pub mod PackageFiles
pub mod PackageFolder
pub mod Roots
pub mod SaidGood
pub mod SoundIndex
pub mod SoundPackage
pub mod ValueParts
pub mod Zeros
