-- The value at the field of a table that a word names (apk-v3(5)).
-- The rule is in `docs/formats.md`, "Schemas", table 3. It serves the law
-- `an_option_gives_the_field_of_its_name`.
use Rattle.std.specs.Prelude.{ℕ, List, [], ◌∷◌, Option, Some, None, if◌then◌else◌}
use Rattle.std.specs.Str.{bytes_eq}
use Rattle.adb_view.specs.Schema.{field_name_text}
use Rattle.adb_view.specs.declared.tables.Field.{Field}
use Rattle.adb_view.specs.Plain.{Plain, Plains, none, more}
use Rattle.make_info.specs.declared.field.Field as Options
use Rattle.make_info.specs.declared.field.Field.TheVariants as Fields
use Rattle.make_info.specs.Fields.{kind_of_field, may_repeat}
use Rattle.make_info.specs.Information.{FieldWithValue, value_of_list_field, value_of_single_field}

-- the value of the field with the name `word`. `values` are the values of an object, in the order of the
-- fields of its table (`fields`). None if no field has the name, or there is no value for it
abbrev pub value_by_name : List ℕ → List Field → Plains → Option Plain
value_by_name word [] values = None
value_by_name word (f ∷ fields) none = None
value_by_name word (f ∷ fields) (more v values) =
    if bytes_eq (field_name_text f.name) word then Some v else value_by_name word fields values

-- the plain value of a field that `-I` gives: for a list field the array of its items, for another field
-- its one item. None for the priority in replacing, which is not part of the object of a package's
-- information
abbrev pub value_of_field_in_information_object : Options.Field → List FieldWithValue → Option Plain
value_of_field_in_information_object Fields.ReplacesPriority info = None
value_of_field_in_information_object f info =
    if may_repeat (kind_of_field f) then Some (value_of_list_field f info)
    else Some (value_of_single_field f info)
