-- What a `Shaped` has: a payload whose shape was tested by a walk, and the table of its root. Serves the contracts of
-- `Shaped`; the rule is in `docs/formats.md`, "The shape".
use Rattle.adb_view.specs.Plain.{Plain}
use Rattle.adb_view.specs.Head.{root_word_of_payload}
use Rattle.adb_view.specs.Adb.{payload_of}
use Rattle.adb_view.specs.declared.adb.Adb.{Adb}
use Rattle.adb_view.specs.Values.{value_at}
use Rattle.adb_view.specs.declared.tables.Which.{Which}
use Rattle.adb_view.specs.declared.tables.Kind.TheVariants.{Obj}
use Rattle.adb_view.specs.declared.shaped.Shaped.{Shaped}

-- the payload that was walked, as it was opened
abbrev pub adb_of : Shaped → Adb
adb_of shaped = shaped.adb

-- the table by which the root of the payload was read in the walk
abbrev pub table_of : Shaped → Which
table_of shaped = shaped.which

-- the plain value of the root of the payload that was walked
abbrev pub shaped_value : Shaped → Plain
shaped_value shaped = value_at (payload_of shaped.adb) (Obj shaped.which)
    (root_word_of_payload (payload_of shaped.adb))
