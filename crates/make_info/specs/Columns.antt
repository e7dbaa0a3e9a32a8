-- The fields of a package's information by the columns of the program. Serves the proof of `writing`;
-- the rule is that of *information_fields_with_installed_size*.
use Rattle.std.specs.Prelude.{ℕ, List, [], ◌∷◌}
use Rattle.adb_view.specs.Plain.{Plain, null, Plains, none, more}
use Rattle.make_info.specs.declared.writing.Column.{Column}
use Rattle.make_info.specs.declared.writing.Column.TheVariants.{Single, List as ListOf, InstalledSize, Null}
use Rattle.make_info.specs.Information.{FieldWithValue, value_of_list_field, value_of_single_field}
use Rattle.make_info.specs.Values.{size_or_null_if_zero}

-- the plain value of one field of the table, by its source (`column`), the items of the information and
-- the installed size (`size`)
abbrev pub column_value : List FieldWithValue → ℕ → Column → Plain
column_value info size (Single f) = value_of_single_field f info
column_value info size (ListOf f) = value_of_list_field f info
column_value info size InstalledSize = size_or_null_if_zero size
column_value info size Null = null

-- the plain values of several fields, in the order of the table
abbrev pub column_values_by_installed_size : List FieldWithValue → ℕ → List Column → Plains
column_values_by_installed_size info size [] = none
column_values_by_installed_size info size (column ∷ columns) =
    more (column_value info size column) (column_values_by_installed_size info size columns)
