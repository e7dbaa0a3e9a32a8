-- The value of the lines of a dump, or the number of the first line that is not allowed, counted from
-- 0. The rule is in `docs/formats.md`, "Dump text": no other normal value has the same text. No command
-- reads a text back: serves the laws `lines_of_values_are_read_back`, `only_lines_of_values_are_read`
-- and `texts_are_split_into_their_lines`.
use Rattle.std.specs.Prelude.{ℕ, zero, suc, ◌+◌, ◌-◌, ◌*◌, ◌^◌, List, [], ◌∷◌, ◌++◌, length, drop, codes, bytes_eq, Option, Some, None, option_map, option_and_then, Result, Ok, Err, nat_lt, ◌==◌, if◌then◌else◌}
use Rattle.std.specs.Str.Parse.{digits_value}
use Rattle.base_core.specs.Lists.{and_then}
use Rattle.adb_view.specs.Plain.{Plain, null, int, blob, arr, obj, Plains, none, more, Shape, number, text, hash, array, object, Fields, no_fields, field}
use Rattle.adb_view.specs.Schema.{shape_of}
use Rattle.adb_view.specs.declared.tables.Which.{Which}
use Rattle.adb_view.specs.declared.tables.Kind.TheVariants.{Obj}
use Rattle.adb_dump.specs.Dump.{Line, begins_with_byte, int_or_null_line, text_or_null_line, hash_or_null_line}

-- the result of reading lines, or the number of the first line that is not allowed
abbrev pub ResultOrBadLine : Type 0 → Type 0
ResultOrBadLine A = Result A ℕ

-- the result `f x` of reading after `n` other lines; the number of a bad line then counts these lines
-- too
abbrev pub mapped_or_bad_line_shifted_by : {A B : Type 0} → ℕ → (A → B) → ResultOrBadLine A
    → ResultOrBadLine B
mapped_or_bad_line_shifted_by n f (Ok x) = Ok (f x)
mapped_or_bad_line_shifted_by n f (Err k) = Err (n + k)

-- the rest of a line (the second argument) after a prefix, if the line begins with this prefix
abbrev pub strip_prefix : List ℕ → List ℕ → Option (List ℕ)
strip_prefix [] l = Some l
strip_prefix (p ∷ ps) [] = None
strip_prefix (p ∷ ps) (c ∷ cs) = if p == c then strip_prefix ps cs else None

-- a block and the lines after it (`r`), with one more line at the front of the block
abbrev pub with_line_before_block : Line → List Line × List Line → List Line × List Line
with_line_before_block l r = (l ∷ r.0, r.1)

-- the block and the lines after it, from the line `l` on. If `l` is indented, its text after the
-- spaces (`inner`) is put in front of the block `r.0` of the lines after it. Otherwise the block is
-- empty, and all lines are after the block
abbrev pub end_block_or_add_line : Line → List Line → Option Line → List Line × List Line
    → List Line × List Line
end_block_or_add_line l ls None r = ([], l ∷ ls)
end_block_or_add_line l ls (Some inner) r = with_line_before_block inner r

-- the block at the front: the lines that are indented, without their two spaces; and the lines after
-- the block
abbrev pub block_and_lines_after : List Line → List Line × List Line
block_and_lines_after [] = ([], [])
block_and_lines_after (l ∷ ls) =
    end_block_or_add_line l ls (strip_prefix (codes "  ") l) (block_and_lines_after ls)

-- ---- a value on one line

-- the number that a lower-case hexadecimal digit represents: `0` to `9` are the bytes 0x30 to 0x39, and `a` is 0x61
abbrev pub hex_digit_value_unchecked : ℕ → ℕ
hex_digit_value_unchecked c = if nat_lt c 0x3a then c - 0x30 else c - 0x57

-- the bytes of hexadecimal digits, two for each; a single digit at the end is dropped
abbrev pub bytes_of_hex_digits_unchecked : List ℕ → List ℕ
bytes_of_hex_digits_unchecked [] = []
bytes_of_hex_digits_unchecked (h ∷ []) = []
bytes_of_hex_digits_unchecked (h ∷ l ∷ cs) =
    (hex_digit_value_unchecked h * 16 + hex_digit_value_unchecked l) ∷ bytes_of_hex_digits_unchecked cs

-- the bytes of a text from after a `\x` on. First is the byte of the next two digits; `f` reads the
-- rest
abbrev pub text_read_after_backslash_x : (List ℕ → Option (List ℕ)) → List ℕ → Option (List ℕ)
text_read_after_backslash_x f [] = None
text_read_after_backslash_x f (h ∷ []) = None
text_read_after_backslash_x f (h ∷ l ∷ cs) =
    option_map (λ b. (hex_digit_value_unchecked h * 16 + hex_digit_value_unchecked l) ∷ b) (f cs)

-- the bytes of a text from after a backslash on. First is the byte of the escape (`n`, a backslash, a
-- quote, or `x` and two digits); `f` reads the rest
abbrev pub text_read_after_backslash : (List ℕ → Option (List ℕ)) → List ℕ → Option (List ℕ)
text_read_after_backslash f [] = None
text_read_after_backslash f (d ∷ cs) =
    if d == 0x6e then option_map (λ b. 0x0a ∷ b) (f cs)
    else if d == 0x5c then option_map (λ b. 0x5c ∷ b) (f cs)
    else if d == 0x22 then option_map (λ b. 0x22 ∷ b) (f cs)
    else if d == 0x78 then text_read_after_backslash_x f cs
    else None

-- the bytes of a text from after its first quote (0x22) on, up to a quote that ends the line; a backslash is 0x5c.
-- The number `n` bounds the recursion; the length of the line is enough
abbrev pub quoted_text_read_with_recursion_bound : ℕ → List ℕ → Option (List ℕ)
quoted_text_read_with_recursion_bound zero cs = None
quoted_text_read_with_recursion_bound (suc n) [] = None
quoted_text_read_with_recursion_bound (suc n) (c ∷ cs) =
    if c == 0x22 then (if length cs == 0 then Some [] else None)
    else if c == 0x5c then text_read_after_backslash (quoted_text_read_with_recursion_bound n) cs
    else option_map (λ b. c ∷ b) (quoted_text_read_with_recursion_bound n cs)

-- the value of a text; an empty text has no value, since no line represents it
abbrev pub blob_unless_empty : List ℕ → Option Plain
blob_unless_empty [] = None
blob_unless_empty (c ∷ cs) = Some (blob (c ∷ cs))

-- the value of a number below 2^64 in decimal digits; *value_if_printed_as_line* tests that the line has nothing else
abbrev pub int_of_line_of_unchecked_form : Line → Option Plain
int_of_line_of_unchecked_form l =
    if nat_lt (digits_value 10 l) (2 ^ 64) then Some (int (digits_value 10 l)) else None

-- the value of a text, between quotes or as it is; *value_if_printed_as_line* tests which form it must have
abbrev pub text_of_line_of_unchecked_form : Line → Option Plain
text_of_line_of_unchecked_form l =
    if begins_with_byte 0x22 l then option_and_then blob_unless_empty
    (quoted_text_read_with_recursion_bound (length l) (drop 1 l))
    else blob_unless_empty l

-- the value of a hash, by its hexadecimal digits; *value_if_printed_as_line* tests that the line has nothing else
abbrev pub hash_of_line_of_unchecked_form : Line → Option Plain
hash_of_line_of_unchecked_form l = blob_unless_empty (bytes_of_hex_digits_unchecked l)

-- the value that was read from a line, if it is printed as exactly this line (`form`); else the line
-- is bad
abbrev pub value_if_printed_as_line : (Plain → Line) → Line → Option Plain → ResultOrBadLine Plain
value_if_printed_as_line form l None = Err 0
value_if_printed_as_line form l (Some v) = if bytes_eq (form v) l then Ok v else Err 0

-- the value of a block that has one line, which `f` reads. A second line is bad, and is reported as line 1 (lines
-- count from 0)
abbrev pub single_line_value : (Line → ResultOrBadLine Plain) → List Line → ResultOrBadLine Plain
single_line_value f [] = Err 0
single_line_value f (l ∷ []) = f l
single_line_value f (l ∷ m ∷ ls) = and_then (f l) (λ v. Err 1)

-- ---- lists

-- an entry of an array by its lines, which `f` reads: the first line `l`, without the dash, and the further lines
-- `ls`. If the first line is `null`, the entry is Null, and any further line is bad
abbrev pub entry_read : (List Line → ResultOrBadLine Plain) → Line → List Line → ResultOrBadLine Plain
entry_read f l ls =
    if bytes_eq l (codes "null") then single_line_value (λ x. Ok null) (l ∷ ls) else f (l ∷ ls)

-- an entry of an array, which `f` reads, and the entries after it, which `g` reads. The pair `r` has the further
-- lines of the entry, and the lines after it; `l` is its first line without the dash. A line without a dash (None)
-- is bad
abbrev pub entries_from_dash_line : (List Line → ResultOrBadLine Plain)
    → (List Line → ResultOrBadLine Plains)
    → List Line × List Line → Option Line → ResultOrBadLine Plains
entries_from_dash_line f g r None = Err 0
entries_from_dash_line f g r (Some l) =
    and_then (entry_read f l r.0) (λ v. mapped_or_bad_line_shifted_by (1 + length r.0) (more v) (g r.1))

-- the entries of an array by their lines; `f` reads the lines of one entry. The number `n` bounds the recursion; the
-- number of lines is enough
abbrev pub entries_read_with_recursion_bound : (List Line → ResultOrBadLine Plain) → ℕ → List Line
    → ResultOrBadLine Plains
entries_read_with_recursion_bound f zero ls = Ok none
entries_read_with_recursion_bound f (suc n) [] = Ok none
entries_read_with_recursion_bound f (suc n) (l ∷ ls) =
    entries_from_dash_line f (entries_read_with_recursion_bound f n) (block_and_lines_after ls)
    (strip_prefix (codes "- ") l)

-- the array of these entries; an array without an entry has no lines, so it cannot be read
abbrev pub array_or_bad_line_if_empty : Plains → ResultOrBadLine Plain
array_or_bad_line_if_empty none = Err 0
array_or_bad_line_if_empty (more v vs) = Ok (arr (more v vs))

-- the object of these fields; an object without a field has no lines, so it cannot be read
abbrev pub object_or_bad_line_if_empty : Plains → ResultOrBadLine Plain
object_or_bad_line_if_empty none = Err 0
object_or_bad_line_if_empty (more v vs) = Ok (obj (more v vs))

-- a field whose value follows `name:` on its line, and then the other fields: `f` reads the value, `g`
-- the other fields
abbrev pub fields_read_with_value_on_line :
    (Line → ResultOrBadLine Plain) → (List Line → ResultOrBadLine Plains) → List Line
    → Option Line → ResultOrBadLine Plains
fields_read_with_value_on_line f g ls None = Err 0
fields_read_with_value_on_line f g ls (Some l) =
    and_then (f l) (λ v. mapped_or_bad_line_shifted_by 1 (more v) (g ls))

-- a field whose value is in the block `r.0` below its name, and then the other fields: `f` reads the
-- block, `g` the lines after it. Nothing may follow `name:` on its line
abbrev pub fields_read_with_value_below : (List Line → ResultOrBadLine Plain)
    → (List Line → ResultOrBadLine Plains)
    → List Line × List Line → Line → ResultOrBadLine Plains
fields_read_with_value_below f g r [] =
    and_then (mapped_or_bad_line_shifted_by 1 (λ v. v) (f r.0))
    (λ v. mapped_or_bad_line_shifted_by (1 + length r.0) (more v) (g r.1))
fields_read_with_value_below f g r (c ∷ cs) = Err 0

-- the fields from a line on, by the text after `name:` on this line. If the line has another name (None), they are
-- `other`, the fields after this one; otherwise `this` reads this field and those after it
abbrev pub fields_read_by_name_match :
    ResultOrBadLine Plains → (Line → ResultOrBadLine Plains) → Option Line → ResultOrBadLine Plains
fields_read_by_name_match other this None = other
fields_read_by_name_match other this (Some rest) = this rest

unfoldable mutual
  -- the value of the shape that has exactly these lines; or the number of the first bad line
  pub block_read : Shape → List Line → ResultOrBadLine Plain
  block_read number ls =
      single_line_value (λ l. value_if_printed_as_line int_or_null_line l
      (int_of_line_of_unchecked_form l)) ls
  block_read text ls =
      single_line_value (λ l. value_if_printed_as_line text_or_null_line l
      (text_of_line_of_unchecked_form l)) ls
  block_read hash ls =
      single_line_value (λ l. value_if_printed_as_line hash_or_null_line l
      (hash_of_line_of_unchecked_form l)) ls
  block_read (array s) ls =
      and_then (entries_read_with_recursion_bound (block_read s) (length ls) ls) array_or_bad_line_if_empty
  block_read (object schema fs) ls = and_then (fields_read fs ls) object_or_bad_line_if_empty

  -- The value of a field, followed by the other fields. `l` is the rest of the line after `name:`, `ls`
  -- has the lines below it, and `g` reads the other fields. The entries of an array or an object are in
  -- the indented block below the line.
  pub named_read :
      Shape → (List Line → ResultOrBadLine Plains) → List Line → Line → ResultOrBadLine Plains
  named_read number g ls l =
      fields_read_with_value_on_line
      (λ l. value_if_printed_as_line int_or_null_line l (int_of_line_of_unchecked_form l)) g ls
      (strip_prefix (codes " ") l)
  named_read text g ls l =
      fields_read_with_value_on_line
      (λ l. value_if_printed_as_line text_or_null_line l (text_of_line_of_unchecked_form l)) g ls
      (strip_prefix (codes " ") l)
  named_read hash g ls l =
      fields_read_with_value_on_line
      (λ l. value_if_printed_as_line hash_or_null_line l (hash_of_line_of_unchecked_form l)) g ls
      (strip_prefix (codes " ") l)
  named_read (array s) g ls l = fields_read_with_value_below
      (λ ls. and_then (entries_read_with_recursion_bound (block_read s)
      (length ls) ls) array_or_bad_line_if_empty) g
      (block_and_lines_after ls) l
  named_read (object schema fs) g ls l =
      fields_read_with_value_below (λ ls. and_then (fields_read fs ls) object_or_bad_line_if_empty) g
      (block_and_lines_after ls) l

  -- the fields of an object by its lines, in the order of its table. A field is Null if the next line does not have
  -- the name of this field. A line that is left after the last field is bad
  pub fields_read : Fields → List Line → ResultOrBadLine Plains
  fields_read no_fields [] = Ok none
  fields_read no_fields (l ∷ ls) = Err 0
  fields_read (field name s fs) [] = Ok none
  fields_read (field name s fs) (l ∷ ls) = fields_read_by_name_match
      (mapped_or_bad_line_shifted_by 0 (more null) (fields_read fs (l ∷ ls)))
      (named_read s (fields_read fs) ls)
      (strip_prefix (name ++ codes ":") l)

-- the value of a table by the lines of a dump text after its first line, or the number of a bad line; without lines
-- the value is Null
abbrev pub value_of_lines_below_schema_line : Which → List Line → ResultOrBadLine Plain
value_of_lines_below_schema_line which [] = Ok null
value_of_lines_below_schema_line which (l ∷ ls) = block_read (shape_of (Obj which)) (l ∷ ls)

-- ---- the lines of a text, in which the last one has its line end

-- the lines of a text with one more byte at the front of the first line; None if there is no line
abbrev pub add_char : ℕ → Option (List Line) → Option (List Line)
add_char c None = None
add_char c (Some []) = None
add_char c (Some (l ∷ ls)) = Some ((c ∷ l) ∷ ls)

-- the lines of a text; None if its last line has no line end
abbrev pub lines_of_text_if_all_ended : List ℕ → Option (List Line)
lines_of_text_if_all_ended [] = Some []
lines_of_text_if_all_ended (c ∷ cs) =
    if c == 0x0a then option_map (λ ls. [] ∷ ls) (lines_of_text_if_all_ended cs) else add_char c
    (lines_of_text_if_all_ended cs)
