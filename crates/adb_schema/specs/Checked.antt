-- The contents of a checked payload. Serves the contracts of `Checked`; the tests are in
-- `docs/formats.md`, "Tests of a container".
use Rattle.adb_view.specs.Plain.{Plain}
use Rattle.adb_view.specs.ShapedPayload.{table_of, shaped_value}
use Rattle.adb_view.specs.declared.tables.Which.{Which}
use Rattle.adb_schema.specs.declared.checked.Checked.{Checked}

-- the table at the root of a checked payload
abbrev pub table_of_checked : Checked → Which
table_of_checked checked = table_of checked.shaped

-- the plain value of the root of a checked payload
abbrev pub checked_value : Checked → Plain
checked_value checked = shaped_value checked.shaped
