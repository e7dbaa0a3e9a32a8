-- The fields of a package's information by the columns of the program. Serves the proof of `writing`;
-- the rule is that of *record_info_value*.
use Rattle.std.specs.Prelude.{List}
use Rattle.adb_view.specs.Plain.{Plain, null}
use Rattle.v2_core.specs.declared.writing.Column.{Column}
use Rattle.v2_core.specs.declared.writing.Column.TheVariants.{Once, List as ListOf, Null}
use Rattle.v2_core.specs.Database.{array_of_field_values, value_of_single_line_field}
use Rattle.v2_core.specs.Records.{InfoLine}

-- the plain value of a field of the information, by how the column takes its lines
abbrev pub value_of_column : List InfoLine → Column → Plain
value_of_column info (Once f) = value_of_single_line_field f info
value_of_column info (ListOf f) = array_of_field_values f info
value_of_column info Null = null
