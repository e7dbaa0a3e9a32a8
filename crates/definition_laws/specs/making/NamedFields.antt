-- The field of a value by its name in the table (apk-v3(5)).
-- The tables are in `docs/formats.md`, "Schemas". With these definitions the laws depend on no number
-- of a field.
use Rattle.std.specs.Prelude.{◌≡◌, ℕ, suc, List, [], ◌∷◌, codes, if◌then◌else◌}
use Rattle.std.specs.Str.{bytes_eq}
use Rattle.make_core.specs.adb_fields.Repeated.{list_of}
use Rattle.adb_view.specs.Schema.{field_name_text, table}
use Rattle.adb_view.specs.Values.{entries_in, entry_at_index}
use Rattle.adb_view.specs.declared.tables.Field.{Field}
use Rattle.adb_view.specs.declared.tables.Which.{Which}
use Rattle.adb_view.specs.declared.tables.Which.TheVariants.{Acl}
use Rattle.adb_view.specs.Plain.{Plain, int, blob}

-- the index of the field with this name in a table, counted from 0; the length of the table if no field
-- has the name
abbrev pub place_of_name : List ℕ → List Field → ℕ
place_of_name name [] = 0
place_of_name name (f ∷ fields) =
    if bytes_eq (field_name_text f.name) name then 0 else suc (place_of_name name fields)

-- the value of the field with this name in the object `v` of this table; Null if the object lacks the
-- field
abbrev pub field_named : Which → List ℕ → Plain → Plain
field_named which name v = entry_at_index v (place_of_name name (table which))

-- the entries of the field with this name in the object `v` of this table; the field is an array
abbrev pub entries_of_field_named : Which → List ℕ → Plain → List Plain
entries_of_field_named which name v = list_of (entries_in (field_named which name v))

-- an access list gives this mode, with `root` as user and group
pub record IsAccessOfRoot (mode : ℕ) (acl : Plain) : Type 0 where
  -- the mode, as a number
  pub of_mode : field_named Acl (codes "mode") acl ≡ int mode
  -- the user is `root`
  pub of_user : field_named Acl (codes "user") acl ≡ blob (codes "root")
  -- the group is `root`
  pub of_group : field_named Acl (codes "group") acl ≡ blob (codes "root")
