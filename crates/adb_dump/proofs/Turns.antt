-- What a turn of a loop writes.
use Rattle.std.proofs.Common.{◌≡◌, ℕ, suc, ◌+◌, ◌<◌, ◌≤◌, Bool, true, false, List, [], ◌∷◌, ◌++◌, length, get_or, drop, refl, sym, ap, ◌∙◌, append_assoc, arith}
use Rattle.std.specs.Prelude.{codes}
use Rattle.adb_view.specs.Plain.{Plain, null, int, blob, arr, obj, trimmed_object_or_null, Plains, none, more, Fields, no_fields, field}
use Rattle.adb_schema.specs.adb_fields.Fields.{are_all_sound}
use Rattle.adb_view.specs.Schema.{field_name_text, shape_of, shapes_of, table}
use Rattle.adb_view.specs.Values.{is_sound, text_in, value_at}
use Rattle.adb_view.specs.declared.tables.Which.{Which}
use Rattle.adb_view.specs.declared.tables.Kind.{Kind}
use Rattle.adb_view.specs.declared.tables.Kind.TheVariants.{Int, Text, Hash, Obj, TextArr, ObjArr}
use Rattle.adb_view.specs.declared.tables.Field.{Field}
use Rattle.adb_dump.specs.Dump.{Line, block_lines, fields_lines, lines_with_dash_before_first, named_lines, entry_lines_or_null_line, bare_or_quoted_text, field_lines_unless_null}
use Rattle.adb_dump.specs.Margin.{indented_lines_text, margin_unless_begun}
use Rattle.adb_dump.specs.Words.{are_null, fields_at, is_null, fields_sound, has_one_line}
use Rattle.adb_dump.proofs.BlockLines.{HasLine, block_line, or_null_line, named_line, object_lines, text_lines}
use Rattle.adb_dump.proofs.Nulls.{obj_null}
use Rattle.adb_dump.proofs.Left.{entries_left, fields_left, entry_step, entries_more, entries_done, fields_next, fields_skip, fields_done, fields_over, field_lines_unless_null-false, field_lines_unless_null-true}
use Rattle.adb_dump.proofs.Placed.{laid_after, laid_dashed, laid_on_line, laid_below}

-- ---- entries

pub entry_here : (p : List ℕ) (k : Kind) (words : List ℕ) (i : ℕ) → i < length words → are_all_sound p k (drop i words) ≡ true → is_sound p k (get_or words i 0) ≡ true
entry_here p k words i lt h = (entry_step p k words i lt h).here

pub entries_later : (p : List ℕ) (k : Kind) (words : List ℕ) (i : ℕ) → i < length words → are_all_sound p k (drop i words) ≡ true → are_all_sound p k (drop (i + 1) words) ≡ true
entries_later p k words i lt h = (entry_step p k words i lt h).later

dashed_laid : (d : ℕ) (b : Bool) (ls rest : List Line) → HasLine ls → indented_lines_text d b (lines_with_dash_before_first ls ++ rest) ≡ (margin_unless_begun d b ++ codes "- ") ++ (indented_lines_text (d + 1) true ls ++ indented_lines_text d false rest)
dashed_laid d b ls rest h =
    let e : d + 1 ≡ suc d = omega arith in
    rw (e, h.is) (laid_dashed d b h.first h.others rest)

-- the lines of the next entry, and of those after it
pub entry_turn : (d : ℕ) (b : Bool) (p : List ℕ) (k : Kind) (words : List ℕ) (i : ℕ) → i < length words → are_all_sound p k (drop i words) ≡ true
    → indented_lines_text d b (entries_left p k words i) ≡ ((margin_unless_begun d b ++ codes "- ") ++ indented_lines_text (d + 1) true (entry_lines_or_null_line (value_at p k (get_or words i 0)) (block_lines (shape_of k) (value_at p k (get_or words i 0))))) ++ indented_lines_text d false (entries_left p k words (i + 1))
entry_turn d b p k words i lt h =
    let v = value_at p k (get_or words i 0) in
    let ls = entry_lines_or_null_line v (block_lines (shape_of k) v) in
    let some : HasLine ls = or_null_line v (block_lines (shape_of k) v) (block_line p k (get_or words i 0) (entry_here p k words i lt h)) in
    ap (λ (x : List Line). indented_lines_text d b x) (entries_more p k words i lt h)
    ∙ dashed_laid d b ls (entries_left p k words (i + 1)) some
    ∙ sym (append_assoc (margin_unless_begun d b ++ codes "- ") (indented_lines_text (d + 1) true ls) (indented_lines_text d false (entries_left p k words (i + 1))))

pub entries_end : (d : ℕ) (b : Bool) (p : List ℕ) (k : Kind) (words : List ℕ) (i : ℕ) → length words ≤ i → indented_lines_text d b (entries_left p k words i) ≡ []
entries_end d b p k words i le = ap (λ (x : List Line). indented_lines_text d b x) (entries_done p k words i le)

pub null_entry : (d : ℕ) (v : Plain) (ls : List Line) → is_null v ≡ true → indented_lines_text d true (entry_lines_or_null_line v ls) ≡ codes "null\n"
null_entry d null ls e = refl
null_entry d (int n) ls e = absurd cc
null_entry d (blob b) ls e = absurd cc
null_entry d (arr vs) ls e = absurd cc
null_entry d (obj vs) ls e = absurd cc

pub some_entry : (v : Plain) (ls : List Line) → is_null v ≡ false → entry_lines_or_null_line v ls ≡ ls
some_entry null ls e = absurd cc
some_entry (int n) ls e = refl
some_entry (blob b) ls e = refl
some_entry (arr vs) ls e = refl
some_entry (obj vs) ls e = refl

-- an object's lines are those of its fields
object_fields : (p : List ℕ) (which : Which) (w : ℕ) (ws : List ℕ) (fields : List Field) → fields ≡ table which → value_at p (Obj which) w ≡ trimmed_object_or_null (fields_at p (table which) ws)
    → fields_lines (shapes_of fields) (fields_at p fields ws) ≡ block_lines (shape_of (Obj which)) (value_at p (Obj which) w)
object_fields p which w ws fields e value = rw e (sym (object_lines p which w ws value))

object_null : (p : List ℕ) (which : Which) (w : ℕ) (ws : List ℕ) (fields : List Field) → fields ≡ table which → value_at p (Obj which) w ≡ trimmed_object_or_null (fields_at p (table which) ws)
    → is_null (value_at p (Obj which) w) ≡ are_null (fields_at p fields ws)
object_null p which w ws fields e value = rw e (ap is_null value ∙ obj_null (fields_at p (table which) ws))

null_lines : (fs : Fields) (vs : Plains) → are_null vs ≡ true → fields_lines fs vs ≡ []
unfolding fields_lines
null_lines no_fields vs e = refl
null_lines (field name s fs) none e = refl
null_lines (field name s fs) (more null vs) e = null_lines fs vs e
null_lines (field name s fs) (more (int n) vs) e = absurd cc
null_lines (field name s fs) (more (blob b) vs) e = absurd cc
null_lines (field name s fs) (more (arr us) vs) e = absurd cc
null_lines (field name s fs) (more (obj us) vs) e = absurd cc

-- an entry that is an object: without a field it is Null
pub object_entry_null : (d : ℕ) (p : List ℕ) (which : Which) (w : ℕ) (ws : List ℕ) (fields : List Field) → fields ≡ table which → value_at p (Obj which) w ≡ trimmed_object_or_null (fields_at p (table which) ws) → are_null (fields_at p fields ws) ≡ true
    → indented_lines_text d true (fields_lines (shapes_of fields) (fields_at p fields ws)) ++ codes "null\n" ≡ indented_lines_text d true (entry_lines_or_null_line (value_at p (Obj which) w) (block_lines (shape_of (Obj which)) (value_at p (Obj which) w)))
object_entry_null d p which w ws fields e value all =
    ap (λ (ls : List Line). indented_lines_text d true ls ++ codes "null\n") (null_lines (shapes_of fields) (fields_at p fields ws) all)
    ∙ sym (null_entry d (value_at p (Obj which) w) (block_lines (shape_of (Obj which)) (value_at p (Obj which) w)) (object_null p which w ws fields e value ∙ all))

pub object_entry_some : (d : ℕ) (p : List ℕ) (which : Which) (w : ℕ) (ws : List ℕ) (fields : List Field) → fields ≡ table which → value_at p (Obj which) w ≡ trimmed_object_or_null (fields_at p (table which) ws) → are_null (fields_at p fields ws) ≡ false
    → indented_lines_text d true (fields_lines (shapes_of fields) (fields_at p fields ws)) ≡ indented_lines_text d true (entry_lines_or_null_line (value_at p (Obj which) w) (block_lines (shape_of (Obj which)) (value_at p (Obj which) w)))
object_entry_some d p which w ws fields e value some =
    ap (λ (ls : List Line). indented_lines_text d true ls) (object_fields p which w ws fields e value ∙ sym (some_entry (value_at p (Obj which) w) (block_lines (shape_of (Obj which)) (value_at p (Obj which) w)) (object_null p which w ws fields e value ∙ some)))

-- ---- fields

one_line : (k : Kind) (d : ℕ) (b : Bool) (name : Line) (v : Plain) → has_one_line k ≡ true → indented_lines_text d b (named_lines (shape_of k) name v) ≡ (((margin_unless_begun d b ++ name) ++ codes ":") ++ codes " ") ++ indented_lines_text d true (block_lines (shape_of k) v)
unfolding shape_of named_lines block_lines
one_line Int d b name v h = laid_on_line d b name _
one_line Text d b name v h = laid_on_line d b name _
one_line Hash d b name v h = laid_on_line d b name _
one_line (Obj w) d b name v h = absurd cc
one_line TextArr d b name v h = absurd cc
one_line (ObjArr w) d b name v h = absurd cc

several_lines : (k : Kind) (d : ℕ) (b : Bool) (name : Line) (v : Plain) → has_one_line k ≡ false → indented_lines_text d b (named_lines (shape_of k) name v) ≡ (((margin_unless_begun d b ++ name) ++ codes ":") ++ codes "\n") ++ indented_lines_text (suc d) false (block_lines (shape_of k) v)
unfolding shape_of named_lines block_lines
several_lines Int d b name v h = absurd cc
several_lines Text d b name v h = absurd cc
several_lines Hash d b name v h = absurd cc
several_lines (Obj w) d b name v h = laid_below d b name _
several_lines TextArr d b name v h = laid_below d b name _
several_lines (ObjArr w) d b name v h = laid_below d b name _

pub field_after : (k : Kind) (d : ℕ) (b : Bool) (name : Line) (v : Plain) → has_one_line k ≡ true → ((margin_unless_begun d b ++ name) ++ codes ": ") ++ indented_lines_text d true (block_lines (shape_of k) v) ≡ indented_lines_text d b (named_lines (shape_of k) name v)
field_after k d b name v h = ap (λ (t : List ℕ). t ++ indented_lines_text d true (block_lines (shape_of k) v)) (sym (append_assoc (margin_unless_begun d b ++ name) (codes ":") (codes " "))) ∙ sym (one_line k d b name v h)

pub fields_read_with_value_below : (k : Kind) (d : ℕ) (b : Bool) (name : Line) (v : Plain) → has_one_line k ≡ false → ((margin_unless_begun d b ++ name) ++ codes ":\n") ++ indented_lines_text (d + 1) false (block_lines (shape_of k) v) ≡ indented_lines_text d b (named_lines (shape_of k) name v)
fields_read_with_value_below k d b name v h =
    let e : d + 1 ≡ suc d = omega arith in
    rw e (ap (λ (t : List ℕ). t ++ indented_lines_text (suc d) false (block_lines (shape_of k) v)) (sym (append_assoc (margin_unless_begun d b ++ name) (codes ":") (codes "\n"))) ∙ sym (several_lines k d b name v h))

behind_named : (d : ℕ) (b : Bool) (xs ys : List Line) → HasLine xs → indented_lines_text d b (xs ++ ys) ≡ indented_lines_text d b xs ++ indented_lines_text d false ys
behind_named d b xs ys h = rw h.is (laid_after d b h.first h.others ys)

-- the lines of the next field, and of those after it
pub field_turn : (d : ℕ) (b : Bool) (p : List ℕ) (fields : List Field) (words : List ℕ) (i word : ℕ) (f : Field) → i < length fields → i < length words → word ≡ get_or words i 0 → fields_sound p (drop i fields) (drop i words) ≡ true → is_null (value_at p (get_or fields i f).kind word) ≡ false
    → indented_lines_text d b (fields_left p fields words i)
    ≡ indented_lines_text d b (named_lines (shape_of (get_or fields i f).kind) (field_name_text (get_or fields i f).name) (value_at p (get_or fields i f).kind word)) ++ indented_lines_text d false (fields_left p fields words (i + 1))
field_turn d b p fields words i word f lt lt' e h n = rw e (turn (rw e at n))
  where
    turn : is_null (value_at p (get_or fields i f).kind (get_or words i 0)) ≡ false
        → indented_lines_text d b (fields_left p fields words i)
        ≡ indented_lines_text d b (named_lines (shape_of (get_or fields i f).kind) (field_name_text (get_or fields i f).name) (value_at p (get_or fields i f).kind (get_or words i 0))) ++ indented_lines_text d false (fields_left p fields words (i + 1))
    turn n =
        let named = named_lines (shape_of (get_or fields i f).kind) (field_name_text (get_or fields i f).name) (value_at p (get_or fields i f).kind (get_or words i 0)) in
        ap (λ (x : List Line). indented_lines_text d b x) (fields_next p fields words i f lt lt' h n)
        ∙ behind_named d b named (fields_left p fields words (i + 1)) (named_line (shape_of (get_or fields i f).kind) (field_name_text (get_or fields i f).name) (value_at p (get_or fields i f).kind (get_or words i 0)))

-- a field that is Null has no lines, any other has its own
pub null_put : (d : ℕ) (b : Bool) (v : Plain) (ls : List Line) → is_null v ≡ true → indented_lines_text d b (field_lines_unless_null v ls) ≡ []
null_put d b v ls e = ap (λ (x : List Line). indented_lines_text d b x) (field_lines_unless_null-true v ls e)

pub some_put : (d : ℕ) (b : Bool) (v : Plain) (ls : List Line) → is_null v ≡ false → indented_lines_text d b (field_lines_unless_null v ls) ≡ indented_lines_text d b ls
some_put d b v ls e = ap (λ (x : List Line). indented_lines_text d b x) (field_lines_unless_null-false v ls e)

-- the line of a text after its name
pub text_put : (d : ℕ) (b : Bool) (name : Line) (p : List ℕ) (w : ℕ) (bytes : List ℕ) → bytes ≡ text_in (value_at p Text w) → is_null (value_at p Text w) ≡ false
    → ((margin_unless_begun d b ++ name) ++ codes ": ") ++ indented_lines_text d true (bare_or_quoted_text bytes ∷ []) ≡ indented_lines_text d b (field_lines_unless_null (value_at p Text w) (named_lines (shape_of Text) name (value_at p Text w)))
text_put d b name p w bytes e some =
    ap (λ (ls : List Line). ((margin_unless_begun d b ++ name) ++ codes ": ") ++ indented_lines_text d true ls) (sym (text_lines p w bytes e some))
    ∙ field_after Text d b name (value_at p Text w) refl ∙ sym (some_put d b (value_at p Text w) _ some)

pub null_turn : (d : ℕ) (b : Bool) (p : List ℕ) (fields : List Field) (words : List ℕ) (i : ℕ) (f : Field) → i < length fields → i < length words → fields_sound p (drop i fields) (drop i words) ≡ true → is_null (value_at p (get_or fields i f).kind (get_or words i 0)) ≡ true
    → indented_lines_text d b (fields_left p fields words i) ≡ indented_lines_text d b (fields_left p fields words (i + 1))
null_turn d b p fields words i f lt lt' h n = ap (λ (x : List Line). indented_lines_text d b x) (fields_skip p fields words i f lt lt' h n)

pub words_end : (d : ℕ) (b : Bool) (p : List ℕ) (fields : List Field) (words : List ℕ) (i : ℕ) → length words ≤ i → indented_lines_text d b (fields_left p fields words i) ≡ []
words_end d b p fields words i le = ap (λ (x : List Line). indented_lines_text d b x) (fields_done p fields words i le)

pub fields_end : (d : ℕ) (b : Bool) (p : List ℕ) (fields : List Field) (words : List ℕ) (i : ℕ) → length fields ≤ i → indented_lines_text d b (fields_left p fields words i) ≡ []
fields_end d b p fields words i le = ap (λ (x : List Line). indented_lines_text d b x) (fields_over p fields words i le)
