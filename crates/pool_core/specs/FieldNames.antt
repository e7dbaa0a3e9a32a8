-- A package's information by the names of its fields. The fields and their names are in
-- `docs/formats.md`, "Schemas", table 3. Serves the law `a_candidate_is_read_by_field_names`, so that
-- no number of a field has to be trusted.
use Rattle.std.specs.Prelude.{ℕ, List, [], ◌∷◌, if◌then◌else◌}
use Rattle.std.specs.Str.{bytes_eq}
use Rattle.adb_view.specs.Plain.{Plain, null, Plains, none, more}
use Rattle.adb_view.specs.FormatTables.{format_table}
use Rattle.adb_view.specs.Values.{entries_in}
use Rattle.adb_view.specs.declared.tables.Kind.{Kind}
use Rattle.adb_view.specs.declared.tables.Which.TheVariants.{PkgInfo}

-- the value of the field with a name: `fields` has the name of each field of a table, in its order, and `values` has
-- their values. Null if no field has the name
abbrev pub value_under_name : List ℕ → List (List ℕ × Kind) → Plains → Plain
value_under_name name [] values = null
value_under_name name (f ∷ fields) none = null
value_under_name name (f ∷ fields) (more v values) =
    if bytes_eq f.0 name then v else value_under_name name fields values

-- the value of that field of a package's information which has this name, such as `depends`
abbrev pub value_of_info_field_named : List ℕ → Plain → Plain
value_of_info_field_named name info = value_under_name name (format_table PkgInfo).1 (entries_in info)
