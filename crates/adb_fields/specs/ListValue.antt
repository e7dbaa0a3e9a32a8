-- The plain value of a `List`, the program's type for an array whose entries are shown by views. Serves the contracts
-- of `List`; the meaning of an array is defined in `docs/formats.md`, "Values".
use Rattle.adb_view.specs.Plain.{Plain}
use Rattle.adb_view.specs.Adb.{payload_of}
use Rattle.adb_view.specs.Entries.{array_entries}
use Rattle.adb_fields.specs.Fields.{array_at}
use Rattle.adb_fields.specs.declared.list.List.{List}

-- the plain value of a `List`: an array of its entries, or Null if there are none
abbrev pub list_value : {V : Type 0} {g : _} → List V g → Plain
list_value {g = g} list = array_at (payload_of list.adb) g.kind (array_entries list.entries)
