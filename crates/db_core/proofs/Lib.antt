-- re-exported crates: a crate that depends on this one can use their definitions without depending on them too
pub use Rattle.pkg_core.proofs.adb_fields as adb_fields
pub use Rattle.pkg_core.proofs.adb_schema as adb_schema
pub mod AnyOf
pub mod Container
pub mod KeptParts
mod Lent
pub mod Listed
mod ListedNames
pub mod ListingPlaces
pub mod Marking
mod MemberPlaces
mod NamePlaces
pub mod OneOwner
pub mod Ordered
pub mod OwnedEntries
pub mod OwnedPaths
pub mod PathParts
pub mod Places
pub mod ReadBack
pub mod Root
pub mod RootNames
pub mod RootParts
pub mod RootRules
pub mod Segments
mod SoundEntries
pub mod SoundPackages
pub mod Unchanged
pub mod Words
