-- Values by their kind.
use Rattle.std.proofs.Common.{◌≡◌, ◌≢◌, ℕ, Bool, true, false, List, [], ◌∷◌, length, Some, Ok, Err, refl, sym, ap, ◌∙◌}
use Rattle.std.specs.Prelude.{codes}
use Rattle.adb_values.proofs.adb_write.RoundTrip.{blob_or_null-is}
use Rattle.adb_view.specs.Plain.{Plain, blob, blob_or_null, Fields, Shape, number, text, hash, array, object}
use Rattle.adb_view.specs.Schema.{shape_of, shapes_of, table, table_number}
use Rattle.adb_view.specs.Shapes.{object_shape}
use Rattle.adb_view.specs.declared.tables.Which.{Which}
use Rattle.adb_values.specs.Drafts.{DraftState, draft_with}
use Rattle.base_core.specs.Lists.{and_then}
use Rattle.adb_view.specs.declared.tables.Kind.{Kind}
use Rattle.adb_view.specs.declared.tables.Kind.TheVariants.{Int, Text, Hash, Obj, TextArr, ObjArr}
use Rattle.adb_dump.specs.Dump.{Line}
use Rattle.adb_dump.specs.ReadBack.{ResultOrBadLine, array_or_bad_line_if_empty, entries_read_with_recursion_bound, fields_read, object_or_bad_line_if_empty, value_of_lines_below_schema_line, single_line_value, fields_read_with_value_on_line, fields_read_with_value_below, block_read, named_read, block_and_lines_after, strip_prefix}
use Rattle.adb_dump.specs.Words.{has_one_line}
use Rattle.gen_core.specs.Cursors.{CursorState, block_at, line_of_block}
use Rattle.gen_core.specs.Reads.{block_taken, line_read}
use Rattle.gen_core.proofs.Blocks.{Split, all_lines}
use Rattle.gen_core.proofs.Reading.{HasOneLine}
use Rattle.gen_core.proofs.Entries.{IsOnLine, IsBelow}

number_line : HasOneLine number
unfolding block_read
number_line ls = refl

text_or_null_line : HasOneLine text
unfolding block_read
text_or_null_line ls = refl

hash_or_null_line : HasOneLine hash
unfolding block_read
hash_or_null_line ls = refl

pub one_line : (kind : Kind) → has_one_line kind ≡ true → HasOneLine (shape_of kind)
unfolding shape_of
one_line Int e = number_line
one_line Text e = text_or_null_line
one_line Hash e = hash_or_null_line
one_line (Obj which) e = absurd cc
one_line TextArr e = absurd cc
one_line (ObjArr which) e = absurd cc

number_on_line : IsOnLine number
unfolding named_read
number_on_line g ls l = refl

text_on_line : IsOnLine text
unfolding named_read
text_on_line g ls l = refl

hash_on_line : IsOnLine hash
unfolding named_read
hash_on_line g ls l = refl

array_below : (s : Shape) → IsBelow (array s)
unfolding named_read block_read
array_below s g ls l = refl

object_below : (which : ℕ) (fs : Fields) → IsBelow (object which fs)
unfolding named_read block_read
object_below which fs g ls l = refl

pub on_line : (kind : Kind) → has_one_line kind ≡ true → IsOnLine (shape_of kind)
unfolding shape_of
on_line Int e = number_on_line
on_line Text e = text_on_line
on_line Hash e = hash_on_line
on_line (Obj which) e = absurd cc
on_line TextArr e = absurd cc
on_line (ObjArr which) e = absurd cc

pub below_name : (kind : Kind) → has_one_line kind ≡ false → IsBelow (shape_of kind)
unfolding shape_of
below_name Int e = absurd cc
below_name Text e = absurd cc
below_name Hash e = absurd cc
below_name (Obj which) e = object_below _ _
below_name TextArr e = array_below _
below_name (ObjArr which) e = array_below _

-- ---- lists

pub array_read : (s : Shape) (ls : List Line) → block_read (array s) ls ≡ and_then (entries_read_with_recursion_bound (block_read s) (length ls) ls) array_or_bad_line_if_empty
unfolding block_read
array_read s ls = refl

pub object_read : (which : ℕ) (fs : Fields) (ls : List Line) → block_read (object which fs) ls ≡ and_then (fields_read fs ls) object_or_bad_line_if_empty
unfolding block_read
object_read which fs ls = refl

-- an object of a table
pub table_read : (w : Which) (ls : List Line) → block_read (shape_of (Obj w)) ls ≡ and_then (fields_read (shapes_of (table w)) ls) object_or_bad_line_if_empty
table_read w ls = ap (λ (s : Shape). block_read s ls) (object_shape w) ∙ object_read (table_number w) (shapes_of (table w)) ls

-- ---- one line by its kind

pub kind_line : (k kind : Kind) (s : Shape) (l : Line) → k ≡ kind → shape_of kind ≡ s → line_read (shape_of k) l ≡ line_read s l
kind_line k kind s l e f = ap (λ (x : Kind). line_read (shape_of x) l) e ∙ ap (λ (x : Shape). line_read x l) f

pub object_line : (w : Which) (l : Line) → line_read (shape_of (Obj w)) l ≡ Err 0
object_line w l = ap (λ (x : Shape). line_read x l) (object_shape w)

-- a text or a hash that was read is written
pub blob_read_as : (s : Shape) (b c : List ℕ) (l : Line) (old new : DraftState) → line_read s l ≡ Ok (blob b) → b ≢ [] → c ≡ b → new ≡ draft_with (blob_or_null c) old → (v : Plain) × (line_read s l ≡ Ok v) × (new ≡ draft_with v old)
blob_read_as s b c l old new read ne same is = (blob b, read, is ∙ ap (λ (x : Plain). draft_with x old) (ap blob_or_null same ∙ blob_or_null-is b ne))

-- ---- the root

pub root_block : (w : Which) (ls : List Line) (line : Line) → Some line ≡ line_of_block (block_at 0 ls).0 → value_of_lines_below_schema_line w ls ≡ block_read (shape_of (Obj w)) (block_at 0 ls).0
root_block w [] line e = absurd cc
root_block w (l ∷ ls) line e = ap (λ (b : Split). block_read (shape_of (Obj w)) b.0) (sym (all_lines (l ∷ ls)))

pub root_taken_as : (w : Which) (d : DraftState) (c : CursorState) (line : Line) → Some line ≡ line_of_block (block_at 0 c.lines).0
    → block_taken (value_of_lines_below_schema_line w c.lines) (c.lines, []) d c ≡ block_taken (block_read (shape_of (Obj w)) (block_at 0 c.lines).0) (block_at 0 c.lines) d c
root_taken_as w d c line e =
    ap (λ (r : ResultOrBadLine Plain). block_taken r (c.lines, []) d c) (root_block w c.lines line e)
    ∙ ap (λ (b : Split). block_taken (block_read (shape_of (Obj w)) (block_at 0 c.lines).0) b d c) (sym (all_lines c.lines))
