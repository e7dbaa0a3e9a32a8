-- The result of testing a file as a package, or for no file. The rules are in `docs/formats.md`, "Tests
-- of a container". Serves the contract of `test_package`, which `verify` uses (`docs/commands.md`,
-- "`verify FILE..`").
use Rattle.std.specs.Prelude.{◌≡◌, ℕ, List, Option, Some, None}
use Rattle.base_core.specs.declared.cause.Cause.TheVariants.{WrongSchema}
use Rattle.package_reader.specs.pkg_core.Whole.{container_fault, package_fault}
use Rattle.package_verifier.specs.declared.test.PackageTest.{PackageTest}
use Rattle.package_verifier.specs.declared.test.PackageTest.TheVariants.{Absent, Bad, OtherSchema, Sound}

-- the first failed test of a file as a package is that of its schema
abbrev pub HasOtherSchema : List ℕ → Type 0
HasOtherSchema file = (found : ℕ) × (package_fault file ≡ Some (WrongSchema found))

-- the result of `test_package` for a file, or for none; a fault is that of the file as a container of
-- any schema
abbrev pub IsPackageTestResult : Option (List ℕ) → PackageTest → Type 0
IsPackageTestResult None Absent = Unit {0}
IsPackageTestResult None OtherSchema = ⊥
IsPackageTestResult None Sound = ⊥
IsPackageTestResult None (Bad c) = ⊥
IsPackageTestResult (Some file) Absent = ⊥
IsPackageTestResult (Some file) OtherSchema = HasOtherSchema file
IsPackageTestResult (Some file) Sound = container_fault file ≡ None
IsPackageTestResult (Some file) (Bad c) = container_fault file ≡ Some c
