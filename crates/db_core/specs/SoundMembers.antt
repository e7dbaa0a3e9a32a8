-- Members whose packages are from sound containers, and files that a database may list.
-- The rules are in `docs/formats.md`, "Tests of a container" (what is sound), "Names that stand
-- twice" and "The texts", field 401 (which paths a database may list). Serves the law of `src/laws.rt`
-- that a new database is sound.
use Rattle.std.specs.Prelude.{◌≡◌, ℕ, true, false, List, [], ◌∷◌, length, map, Option, Some, None}
use Rattle.adb_view.specs.Plain.{Plain, IsNormal}
use Rattle.adb_view.specs.FieldIndexes.{IDB_PACKAGES_INDEX}
use Rattle.adb_view.specs.declared.tables.Which.TheVariants.{Idb, Package}
use Rattle.pkg_core.specs.adb_schema.Reserved.{is_reserved}
use Rattle.pkg_core.specs.adb_schema.Rules.{is_digest_length}
use Rattle.pkg_core.specs.adb_fields.FirstPair.{IsIn}
use Rattle.pkg_core.specs.adb_fields.Repeated.{entries_of_field_at_index}
use Rattle.pkg_core.specs.adb_schema.SoundContainers.{IsSoundValue}
use Rattle.db_core.specs.Members.{Listing, Member}
use Rattle.db_core.specs.OwnedListings.{HaveAtMostOneOwnerForEachPath}

-- a package is one of the value of a sound database
pub record IsOfSoundDatabase (pkg : Plain) : Type 0 where
  -- the value of a database
  pub database : Plain
  -- the value obeys the rules of a database
  pub sound : IsSoundValue Idb database
  -- the value is normalised
  pub normal : IsNormal database
  -- the package is one of the database's packages
  pub listed : IsIn pkg (entries_of_field_at_index IDB_PACKAGES_INDEX database)

-- a package is the value of a sound container, and its id has the length of a digest
pub record IsSoundPackageAndDigest (pkg : Plain) (id : List ℕ) : Type 0 where
  -- the value obeys the rules of a package
  pub sound : IsSoundValue Package pkg
  -- the value is normalised
  pub normal : IsNormal pkg
  -- the id has the length of a digest
  pub digest : is_digest_length (length id) ≡ true

-- the value of a database, if there is one, is sound
abbrev pub IsSoundDatabaseIfAny : Option Plain → Type 0
IsSoundDatabaseIfAny None = Unit {0}
IsSoundDatabaseIfAny (Some database) = IsSoundValue Idb database × IsNormal database

-- a package is from a sound container: a kept one, without an id, from a database; an added one, with
-- its id, from a container of its own
abbrev pub IsPackageOfSoundContainer : Plain → Option (List ℕ) → Type 0
IsPackageOfSoundContainer pkg None = IsOfSoundDatabase pkg
IsPackageOfSoundContainer pkg (Some id) = IsSoundPackageAndDigest pkg id

-- each of some members is from a sound container
abbrev pub AreMembersOfSoundContainers : List Member → Type 0
AreMembersOfSoundContainers [] = Unit {0}
AreMembersOfSoundContainers (m ∷ members) =
    IsPackageOfSoundContainer m.pkg m.id × AreMembersOfSoundContainers members

-- none of these paths is reserved for the package manager's own files
abbrev pub NoneReserved : List (List ℕ) → Type 0
NoneReserved [] = Unit {0}
NoneReserved (path ∷ paths) = (is_reserved path ≡ false) × NoneReserved paths

-- a database may have these listings: no path has two owners, and no path is reserved
pub record HaveOneOwnerPerPathAndNoneReserved (listings : List Listing) : Type 0 where
  -- no path has more than one owner
  pub one_owner : HaveAtMostOneOwnerForEachPath listings
  -- no path is reserved
  pub free : NoneReserved (map (λ l. l.path) listings)
