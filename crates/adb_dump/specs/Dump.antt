-- The text of a plain value: its lines, by its shape. The rules are in `docs/formats.md`, "Dump text";
-- plain values and shapes are defined in "Values" there.
use Rattle.std.specs.Prelude.{ℕ, Bool, false, ◌&&◌, not, List, [], ◌∷◌, ◌++◌, map, codes, bytes_eq, Option, Some, None, nat_le, ◌==◌, if◌then◌else◌}
use Rattle.std.specs.Fmt.{decimal}
use Rattle.std.specs.Int.{w32, to_be_bytes}
use Rattle.std.specs.List.{flat_map, list_all}
use Rattle.hex.specs.Hex.{encode_lower}
use Rattle.adb_view.specs.Plain.{Plain, null, int, blob, Plains, none, more, Shape, number, text, hash, array, object, Fields, no_fields, field}
use Rattle.adb_view.specs.Schema.{shape_of}
use Rattle.adb_view.specs.Values.{entries_in}
use Rattle.adb_schema.specs.Soundness.{header_schema_if_root_table}
use Rattle.adb_view.specs.declared.tables.Which.{Which}
use Rattle.adb_view.specs.declared.tables.Kind.TheVariants.{Obj}

-- a line of the text, without its line end
abbrev pub Line : Type 0
Line = List ℕ

-- ---- a value on one line

-- whether a byte is a space or a visible character of ASCII
abbrev pub is_printable : ℕ → Bool
is_printable c = nat_le 0x20 c && nat_le c 0x7e

-- whether a text is not empty and begins with this byte
abbrev pub begins_with_byte : ℕ → List ℕ → Bool
begins_with_byte c [] = false
begins_with_byte c (d ∷ ds) = c == d

-- whether a text is not empty and ends with this byte
abbrev pub ends_with_byte : ℕ → List ℕ → Bool
ends_with_byte c [] = false
ends_with_byte c (d ∷ []) = c == d
ends_with_byte c (d ∷ e ∷ ds) = ends_with_byte c (e ∷ ds)

-- whether a text may be written as it is: each byte is printable, no space (0x20) is first or last, no quote (0x22)
-- is first, and the text is not `null`
abbrev pub needs_no_quotes : List ℕ → Bool
needs_no_quotes b =
    list_all is_printable b && not (begins_with_byte 0x20 b) && not (ends_with_byte 0x20 b)
    && not (begins_with_byte 0x22 b) && not (bytes_eq b (codes "null"))

-- how a byte of a text between quotes is written. A line end (0x0a), a backslash (0x5c) and a quote (0x22) are
-- escapes; any other printable byte is written as it is. The rest are `\x` and two hexadecimal digits
abbrev pub quoted_form_of_byte : ℕ → List ℕ
quoted_form_of_byte c =
    if c == 0x0a then codes "\\n"
    else if c == 0x5c then codes "\\\\"
    else if c == 0x22 then codes "\\\""
    else if is_printable c then c ∷ []
    else codes "\\x" ++ encode_lower (c ∷ [])

-- a text between quotes, each byte escaped if that is needed
abbrev pub quoted_text : List ℕ → Line
quoted_text b = codes "\"" ++ flat_map quoted_form_of_byte b ++ codes "\""

-- a text on its line: as it is if it needs no quotes, else between quotes
abbrev pub bare_or_quoted_text : List ℕ → Line
bare_or_quoted_text b = if needs_no_quotes b then b else quoted_text b

-- the line of an integer, in decimal; `null` if there is no value
abbrev pub int_or_null_line : Plain → Line
int_or_null_line (int n) = decimal n
int_or_null_line v = codes "null"

-- the line of a text; `null` if there is no value
abbrev pub text_or_null_line : Plain → Line
text_or_null_line (blob b) = bare_or_quoted_text b
text_or_null_line v = codes "null"

-- the line of a hash, two digits for each byte; `null` if there is no value
abbrev pub hash_or_null_line : Plain → Line
hash_or_null_line (blob b) = encode_lower b
hash_or_null_line v = codes "null"

-- ---- lines of lists

-- lines one level deeper: two spaces are in front of each
abbrev pub indent : List Line → List Line
indent ls = map (λ (l : Line). codes "  " ++ l) ls

-- the lines of an entry of an array: the first after a dash, the others as deep as the first
abbrev pub lines_with_dash_before_first : List Line → List Line
lines_with_dash_before_first [] = []
lines_with_dash_before_first (l ∷ ls) = (codes "- " ++ l) ∷ indent ls

-- the lines of an entry of an array, which has the lines `ls` if it is not Null: Null has the line `null`, so that
-- the positions of entries are unchanged
abbrev pub entry_lines_or_null_line : Plain → List Line → List Line
entry_lines_or_null_line null ls = codes "null" ∷ []
entry_lines_or_null_line v ls = ls

-- the lines of an array: each entry after a dash; `f` gives the lines of an entry
abbrev pub array_lines : (Plain → List Line) → Plains → List Line
array_lines f none = []
array_lines f (more v vs) =
    lines_with_dash_before_first (entry_lines_or_null_line v (f v)) ++ array_lines f vs

-- the line of a field whose value has one line: the value after the field's name
abbrev pub named_line : List ℕ → Line → List Line
named_line name l = (name ++ (codes ": " ++ l)) ∷ []

-- the lines of a field whose value may have several lines: the field's name alone, and the value's
-- lines one level deeper
abbrev pub name_line_above_indented_lines : List ℕ → List Line → List Line
name_line_above_indented_lines name ls = (name ++ codes ":") ∷ indent ls

-- the lines `ls` of a field, by its value; none if the value is Null
abbrev pub field_lines_unless_null : Plain → List Line → List Line
field_lines_unless_null null ls = []
field_lines_unless_null v ls = ls

unfoldable mutual
  -- the lines of a value that is not Null
  pub block_lines : Shape → Plain → List Line
  block_lines number v = int_or_null_line v ∷ []
  block_lines text v = text_or_null_line v ∷ []
  block_lines hash v = hash_or_null_line v ∷ []
  block_lines (array s) v = array_lines (block_lines s) (entries_in v)
  block_lines (object schema fs) v = fields_lines fs (entries_in v)

  -- the lines of a field, by its shape, its name and its value, which is not Null
  pub named_lines : Shape → List ℕ → Plain → List Line
  named_lines number name v = named_line name (int_or_null_line v)
  named_lines text name v = named_line name (text_or_null_line v)
  named_lines hash name v = named_line name (hash_or_null_line v)
  named_lines (array s) name v =
      name_line_above_indented_lines name (array_lines (block_lines s) (entries_in v))
  named_lines (object schema fs) name v =
      name_line_above_indented_lines name (fields_lines fs (entries_in v))

  -- the lines of an object's fields that are not Null, in their order
  pub fields_lines : Fields → Plains → List Line
  fields_lines no_fields vs = []
  fields_lines (field name s fs) none = []
  fields_lines (field name s fs) (more v vs) = field_lines_unless_null v (named_lines s name v)
      ++ fields_lines fs vs

-- ---- the whole text

-- the first line of a text: the schema of its root, in eight hexadecimal digits; only the four
-- roots have one
abbrev pub schema_line_or_empty_line : Option ℕ → Line
schema_line_or_empty_line (Some word) = codes "#%SCHEMA: " ++ encode_lower (to_be_bytes w32 word)
schema_line_or_empty_line None = []

-- the lines of a value of this table, without the first line: each of its fields
abbrev pub object_lines_by_table : Which → Plain → List Line
object_lines_by_table which v = block_lines (shape_of (Obj which)) v

-- the lines of a whole dump: that of the schema, and those of the root; a table that is no root has an
-- empty first line
abbrev pub dump_lines : Which → Plain → List Line
dump_lines which v =
    schema_line_or_empty_line (header_schema_if_root_table which) ∷ object_lines_by_table which v

-- the bytes of a text: each line with its line end
abbrev pub dump_text_of_lines : List Line → List ℕ
dump_text_of_lines ls = flat_map (λ l. l ++ codes "\n") ls

-- the text of a dump, by its root's table and the root's value
abbrev pub dump_text : Which → Plain → List ℕ
dump_text which v = dump_text_of_lines (dump_lines which v)
