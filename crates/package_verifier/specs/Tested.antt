-- A package in a tree that was read and tested once. The rules are in `docs/formats.md`, "Tests of a
-- container" and "The other blocks". Serves the contracts of `read_package` and `TestedPackage`.
use Rattle.std.specs.Prelude.{◌≡◌, ℕ, List, length, Option, Some, None}
use Rattle.sha2.specs.Sha256.{sha256}
use Rattle.adb_view.specs.Plain.{Plain}
use Rattle.package_reader.specs.adb_schema.Soundness.{payload_in, root_value_of_payload}
use Rattle.adb_view.specs.declared.tables.Which.TheVariants.{Package}
use Rattle.package_reader.specs.pkg_core.Contents.{contents_in}
use Rattle.package_reader.specs.pkg_core.Whole.{files_read_from_package, package_fault, payload_sha256_of_package_file}
use Rattle.package_reader.specs.pkg_core.Front.{front_file_len, front_payload}
use Rattle.package_verifier.specs.Places.{AreAtPlaces}
use Rattle.package_verifier.specs.declared.package.TestedPackage.{TestedPackage}
use Rattle.package_verifier.specs.declared.read.PackageRead.{PackageRead}
use Rattle.package_verifier.specs.declared.read.PackageRead.TheVariants.{Absent, Bad, Sound}

-- ---- the fields of a tested package

-- the name under which the file of a tested package was read
abbrev pub tested_name : TestedPackage → List ℕ
tested_name pkg = pkg.name

-- how many bytes the file of a tested package has
abbrev pub tested_len : TestedPackage → ℕ
tested_len pkg = front_file_len pkg.front

-- the payload of the first block of a tested package
abbrev pub tested_payload : TestedPackage → List ℕ
tested_payload pkg = front_payload pkg.front

-- the plain value of a tested package
abbrev pub tested_value : TestedPackage → Plain
tested_value pkg = root_value_of_payload Package (tested_payload pkg)

-- the id of a tested package: the SHA-256 of the bytes of its value
abbrev pub tested_id : TestedPackage → List ℕ
tested_id pkg = sha256 (tested_payload pkg)

-- ---- of which files it is

-- a tested package is that of this file, read under this name: no test of the file as a package fails
pub record IsTestedOf (name file : List ℕ) (pkg : TestedPackage) : Type 0 where
  -- the tested package was read under this name
  pub named : tested_name pkg ≡ name
  -- no test of the file fails
  pub sound : package_fault file ≡ None
  -- the tested package has the value of the package in the file
  pub value : tested_value pkg ≡ root_value_of_payload Package (payload_in file)
  -- the tested package has the id of the package in the file
  pub id : tested_id pkg ≡ payload_sha256_of_package_file file
  -- the tested package has the length of the file; this is needed to read its files again
  pub long : tested_len pkg ≡ length file
  -- the tested package has the payload of the first block of the file
  pub payload : tested_payload pkg ≡ payload_in file
  -- the tested package has the place of the contents of each of its files
  pub places : AreAtPlaces file pkg.places.items (contents_in (files_read_from_package file))

-- the result of `read_package` for a file under this name, or for none
abbrev pub IsPackageReadResult : List ℕ → Option (List ℕ) → PackageRead → Type 0
IsPackageReadResult name None Absent = Unit {0}
IsPackageReadResult name None (Bad c) = ⊥
IsPackageReadResult name None (Sound pkg) = ⊥
IsPackageReadResult name (Some file) Absent = ⊥
IsPackageReadResult name (Some file) (Bad c) = package_fault file ≡ Some c
IsPackageReadResult name (Some file) (Sound pkg) = IsTestedOf name file pkg
