-- The values of a package after their tests. Serves the contracts of `Contents`; the value of a payload
-- is defined in `docs/formats.md`, "Values".
use Rattle.std.specs.Prelude.{ℕ, List}
use Rattle.adb_view.specs.Adb.{payload_of}
use Rattle.adb_view.specs.Plain.{Plain}
use Rattle.adb_schema.specs.Soundness.{root_value_of_payload}
use Rattle.adb_view.specs.declared.tables.Which.TheVariants.{Package}
use Rattle.pkg_core.specs.declared.contents.Contents.{Contents}

-- the payload of the first block of a package whose values were tested
abbrev pub payload_of_contents : Contents → List ℕ
payload_of_contents contents = payload_of contents.adb

-- the plain value of a package whose values were tested
abbrev pub value_of_contents : Contents → Plain
value_of_contents contents = root_value_of_payload Package (payload_of_contents contents)
