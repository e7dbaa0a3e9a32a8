-- The values that may be at the root of a container. The rules are in `docs/formats.md`, "Tests of a
-- container", and the limits in "Canonical layout" ("A payload has at most").
use Rattle.std.specs.Prelude.{◌≡◌, ◌≤◌, None}
use Rattle.adb_view.specs.Plain.{Plain, IsNormal}
use Rattle.adb_view.specs.Shaped.{HasShape}
use Rattle.adb_view.specs.Schema.{shape_of}
use Rattle.pkg_core.specs.adb_schema.Texts.{text_or_number_fault}
use Rattle.pkg_core.specs.adb_fields.Repeated.{repeated_fault}
use Rattle.adb_view.specs.declared.tables.Which.{Which}
use Rattle.adb_view.specs.declared.tables.Kind.TheVariants.{Obj}
use Rattle.adb_write.specs.Size.{payload_size_of, value_count}
use Rattle.adb_write.specs.Canonical.{MOST_BYTES, MOST_VALUES}

-- the value v may be at the root of a container with the table `which`: it passes all tests of values
pub record IsValidRootValueOfTable (which : Which) (v : Plain) : Type 0 where
  -- the integers in v are below 2^64, no blob or list in v is empty, and no object in v ends in Null
  pub normal : IsNormal v
  -- v has the shape of the table
  pub shaped : HasShape (shape_of (Obj which)) v
  -- the canonical payload of v is within the limit of bytes
  pub fits : payload_size_of v ≤ MOST_BYTES
  -- the number of values in v, the root included, is within the limit of values
  pub few : value_count v ≤ MOST_VALUES
  -- each text and number in v obeys the rule of its field
  pub texts : text_or_number_fault which v ≡ None
  -- no name that must not repeat occurs twice in v
  pub once : repeated_fault which v ≡ None
