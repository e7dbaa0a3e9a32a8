-- The tests of words in the code: whether they have plain values, and whether these are Null. The rules
-- are in `docs/formats.md`, "Values". Serves the contracts of `src/words.rt` and `src/block.rt`.
use Rattle.std.specs.Prelude.{ℕ, Bool, true, false, ◌&&◌, List, is_some, unwrap_or}
use Rattle.adb_view.specs.Plain.{Plain, null, Plains, none, more, plains_of}
use Rattle.adb_view.specs.Schema.{shapes_of}
use Rattle.adb_view.specs.declared.tables.Kind.{Kind}
use Rattle.adb_view.specs.declared.tables.Kind.TheVariants.{Int, Text, Hash, Obj, TextArr, ObjArr}
use Rattle.adb_view.specs.declared.tables.Field.{Field}

-- whether a value is Null
abbrev pub is_null : Plain → Bool
is_null null = true
is_null v = false

-- whether each of some values is Null: then an object of these is Null itself
abbrev pub are_null : Plains → Bool
are_null none = true
are_null (more v vs) = is_null v && are_null vs

-- whether each word of an object in the payload `p` that has a field refers to a value of the kind of this field, or
-- is NULL. Words after the last field do not count
unfoldable pub fields_sound : List ℕ → List Field → List ℕ → Bool
fields_sound p fields words = is_some (plains_of p (shapes_of fields) words)

-- the plain values of those words of an object in the payload `p` that have a field
unfoldable pub fields_at : List ℕ → List Field → List ℕ → Plains
fields_at p fields words = unwrap_or (plains_of p (shapes_of fields) words) none

-- whether a value of the kind is on the same line as its field's name, and not below this line
abbrev pub has_one_line : Kind → Bool
has_one_line Int = true
has_one_line Text = true
has_one_line Hash = true
has_one_line (Obj which) = false
has_one_line TextArr = false
has_one_line (ObjArr which) = false
