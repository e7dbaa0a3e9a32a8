-- The lines of a value, by what its word reads as.
use Rattle.std.proofs.Common.{◌≡◌, ℕ, Bool, true, false, cond, eqb, List, [], ◌∷◌, ◌++◌, Option, Some, None, option_map, Result, Ok, Err, refl, sym, ap, ◌∙◌}
use Rattle.std.specs.Prelude.{◌&&◌, is_some, codes}
use Rattle.std.specs.Fmt.{decimal}
use Rattle.hex.specs.Hex.{encode_lower}
use Rattle.adb_view.specs.Plain.{Plain, null, int, blob, arr, obj, Plains, none, more, Shape, number, text, hash, array, object, Fields, no_fields, field, prepend_plain_unless_last_null, without_last_nulls, blob_or_null, array_or_null, trimmed_object_or_null, null_plain_if_null_word, option_of_ok_value, plains_of_all_words, plain_of, plains_of}
use Rattle.adb_view.specs.Readers.{run_entries_of_kind_in_payload_at_word, ARRAY, OBJECT}
use Rattle.base_core.specs.declared.cause.Cause.{Cause}
use Rattle.adb_schema.specs.adb_fields.Fields.{values_at}
use Rattle.adb_schema.proofs.adb_fields.FieldReads.{then_more_is}
use Rattle.adb_view.specs.Schema.{table, shape_of, shapes_of}
use Rattle.adb_view.specs.Values.{entries_in, int_in, is_sound, text_in, value_at}
use Rattle.adb_view.proofs.ValueEntries.{entries_arr, entries_obj}
use Rattle.adb_view.specs.declared.tables.Which.{Which}
use Rattle.adb_view.specs.declared.tables.Kind.{Kind}
use Rattle.adb_view.specs.declared.tables.Kind.TheVariants.{Int, Text, Hash, Obj, TextArr, ObjArr}
use Rattle.adb_view.specs.Shapes.{object_shape}
use Rattle.adb_dump.specs.Dump.{Line, block_lines, lines_with_dash_before_first, array_lines, fields_lines, indent, named_lines, entry_lines_or_null_line, bare_or_quoted_text, field_lines_unless_null}
use Rattle.adb_dump.specs.Words.{is_null, are_null, fields_at}
use Rattle.adb_dump.proofs.Nulls.{obj_null}
use Rattle.adb_dump.proofs.WordReads.{hash_plain, int_plain, text_plain}

pub int_lines : (p : List ℕ) (w n : ℕ) → n ≡ int_in (value_at p Int w) → is_null (value_at p Int w) ≡ false → block_lines (shape_of Int) (value_at p Int w) ≡ decimal n ∷ []
unfolding block_lines shape_of
int_lines p w n e some = ap (λ (v : Plain). block_lines number v) (int_plain p w some) ∙ ap (λ (k : ℕ). decimal k ∷ []) (sym e)

text_line_of : (v : Plain) (b : List ℕ) → v ≡ blob_or_null b → is_null v ≡ false → block_lines text v ≡ bare_or_quoted_text b ∷ []
unfolding block_lines
text_line_of v [] e some = let no : is_null null ≡ false = (rw e at some) in absurd cc
text_line_of v (c ∷ cs) e some = rw e refl

hash_line_of : (v : Plain) (b : List ℕ) → v ≡ blob_or_null b → is_null v ≡ false → block_lines hash v ≡ encode_lower b ∷ []
unfolding block_lines
hash_line_of v [] e some = let no : is_null null ≡ false = (rw e at some) in absurd cc
hash_line_of v (c ∷ cs) e some = rw e refl

pub text_lines : (p : List ℕ) (w : ℕ) (b : List ℕ) → b ≡ text_in (value_at p Text w) → is_null (value_at p Text w) ≡ false → block_lines (shape_of Text) (value_at p Text w) ≡ bare_or_quoted_text b ∷ []
unfolding shape_of
text_lines p w b e some = text_line_of (value_at p Text w) b (text_plain p w ∙ ap blob_or_null (sym e)) some

pub hash_lines : (p : List ℕ) (w : ℕ) (b : List ℕ) → b ≡ text_in (value_at p Hash w) → is_null (value_at p Hash w) ≡ false → block_lines (shape_of Hash) (value_at p Hash w) ≡ encode_lower b ∷ []
unfolding shape_of
hash_lines p w b e some = hash_line_of (value_at p Hash w) b (hash_plain p w ∙ ap blob_or_null (sym e)) some

pub texts_lines : (p : List ℕ) (w : ℕ) (ws : List ℕ) → array_or_null (values_at p Text ws) ≡ value_at p TextArr w → block_lines (shape_of TextArr) (value_at p TextArr w) ≡ array_lines (block_lines (shape_of Text)) (values_at p Text ws)
unfolding block_lines shape_of
texts_lines p w ws e = ap (λ (v : Plain). array_lines (block_lines text) (entries_in v)) (sym e) ∙ ap (array_lines (block_lines text)) (entries_arr (values_at p Text ws))

pub objects_lines : (p : List ℕ) (which : Which) (w : ℕ) (ws : List ℕ) → array_or_null (values_at p (Obj which) ws) ≡ value_at p (ObjArr which) w → block_lines (shape_of (ObjArr which)) (value_at p (ObjArr which) w) ≡ array_lines (block_lines (shape_of (Obj which))) (values_at p (Obj which) ws)
unfolding block_lines shape_of
objects_lines p which w ws e = ap (λ (v : Plain). array_lines (block_lines (shape_of (Obj which))) (entries_in v)) (sym e) ∙ ap (array_lines (block_lines (shape_of (Obj which)))) (entries_arr (values_at p (Obj which) ws))

-- the Nulls that are last have no lines

pub no_lines : (fs : Fields) → fields_lines fs none ≡ []
unfolding fields_lines
no_lines no_fields = refl
no_lines (field name s fs) = refl

kept_lines : (name : List ℕ) (s : Shape) (fs : Fields) (v : Plain) (vs : Plains) → fields_lines (field name s fs) (prepend_plain_unless_last_null v vs) ≡ field_lines_unless_null v (named_lines s name v) ++ fields_lines fs vs
unfolding fields_lines
kept_lines name s fs null none = sym (no_lines fs)
kept_lines name s fs null (more v vs) = refl
kept_lines name s fs (int n) vs = refl
kept_lines name s fs (blob b) vs = refl
kept_lines name s fs (arr us) vs = refl
kept_lines name s fs (obj us) vs = refl

trimmed_lines : (fs : Fields) (vs : Plains) → fields_lines fs (without_last_nulls vs) ≡ fields_lines fs vs
unfolding fields_lines
trimmed_lines no_fields vs = refl
trimmed_lines (field name s fs) none = refl
trimmed_lines (field name s fs) (more v vs) = kept_lines name s fs v (without_last_nulls vs) ∙ ap (λ (ls : List Line). field_lines_unless_null v (named_lines s name v) ++ ls) (trimmed_lines fs vs)

object_value_lines : (fs : Fields) (vs : Plains) → fields_lines fs (entries_in (trimmed_object_or_null vs)) ≡ fields_lines fs vs
object_value_lines fs vs = ap (fields_lines fs) (entries_obj (without_last_nulls vs)) ∙ trimmed_lines fs vs

pub object_block : (n : ℕ) (fs : Fields) (v : Plain) → block_lines (object n fs) v ≡ fields_lines fs (entries_in v)
unfolding block_lines
object_block n fs v = refl

pub object_lines : (p : List ℕ) (which : Which) (w : ℕ) (ws : List ℕ) → value_at p (Obj which) w ≡ trimmed_object_or_null (fields_at p (table which) ws) → block_lines (shape_of (Obj which)) (value_at p (Obj which) w) ≡ fields_lines (shapes_of (table which)) (fields_at p (table which) ws)
object_lines p which w ws e =
    ap (λ (s : Shape). block_lines s (value_at p (Obj which) w)) (object_shape which) ∙ object_block _ (shapes_of (table which)) (value_at p (Obj which) w) ∙ ap (λ (v : Plain). fields_lines (shapes_of (table which)) (entries_in v)) e
    ∙ object_value_lines (shapes_of (table which)) (fields_at p (table which) ws)

-- ---- what is not Null has a line

pub record HasLine (ls : List Line) : Type 0 where
  pub first : Line
  pub others : List Line
  pub is : ls ≡ first ∷ others

dashed_line : (ls : List Line) (rest : List Line) → HasLine ls → HasLine (lines_with_dash_before_first ls ++ rest)
dashed_line ls rest h = record { first = codes "- " ++ h.first; others = indent h.others ++ rest; is = ap (λ (x : List Line). lines_with_dash_before_first x ++ rest) h.is }

pub or_null_line : (v : Plain) (ls : List Line) → (is_null v ≡ false → HasLine ls) → HasLine (entry_lines_or_null_line v ls)
or_null_line null ls h = record { first = codes "null"; others = []; is = refl }
or_null_line (int n) ls h = h refl
or_null_line (blob b) ls h = h refl
or_null_line (arr vs) ls h = h refl
or_null_line (obj vs) ls h = h refl

pub named_line : (s : Shape) (name : List ℕ) (v : Plain) → HasLine (named_lines s name v)
unfolding named_lines
named_line number name v = record { first = _; others = []; is = refl }
named_line text name v = record { first = _; others = []; is = refl }
named_line hash name v = record { first = _; others = []; is = refl }
named_line (array s) name v = record { first = _; others = _; is = refl }
named_line (object n fs) name v = record { first = _; others = _; is = refl }

append_line : (xs ys : List Line) → HasLine xs → HasLine (xs ++ ys)
append_line xs ys h = record { first = h.first; others = h.others ++ ys; is = ap (λ (x : List Line). x ++ ys) h.is }

first_or_later : (v : Plain) (xs ys : List Line) (b : Bool) → (is_null v && b) ≡ false → HasLine xs → (b ≡ false → HasLine ys) → HasLine (field_lines_unless_null v xs ++ ys)
first_or_later null xs ys b e h k = k e
first_or_later (int n) xs ys b e h k = append_line xs ys h
first_or_later (blob x) xs ys b e h k = append_line xs ys h
first_or_later (arr vs) xs ys b e h k = append_line xs ys h
first_or_later (obj vs) xs ys b e h k = append_line xs ys h

fields_line : (p : List ℕ) (fs : Fields) (ws : List ℕ) (vs : Plains) → plains_of p fs ws ≡ Some vs → are_null vs ≡ false → HasLine (fields_lines fs vs)
unfolding plains_of fields_lines
fields_line p no_fields ws vs e some = let same : none ≡ vs = cc in absurd (let no : are_null none ≡ false = ap are_null same ∙ some in cc)
fields_line p (field name s fs) [] vs e some = let same : none ≡ vs = cc in absurd (let no : are_null none ≡ false = ap are_null same ∙ some in cc)
fields_line p (field name s fs) (w ∷ ws) vs e some =
    let (u, us, one, others, is) = then_more_is (plain_of p s w) (plains_of p fs ws) vs e in
    rw is (first_or_later u (named_lines s name u) (fields_lines fs us) (are_null us) (sym (ap are_null is) ∙ some) (named_line s name u) (fields_line p fs ws us others))

-- a value that is not Null was found
found_some : {A : Type 0} (w : ℕ) (f : A → Option Plain) (r : Result A Cause) (v : Plain) → null_plain_if_null_word w (option_of_ok_value f r) ≡ Some v → is_null v ≡ false → (x : A) × (f x ≡ Some v)
found_some {A = A} w f r v e some = go (eqb w 0) r e
  where
    go : (b : Bool) (r : Result A Cause) → cond b (Some null) (option_of_ok_value f r) ≡ Some v → (x : A) × (f x ≡ Some v)
    go true r e = let same : null ≡ v = cc in absurd (let no : is_null null ≡ false = ap is_null same ∙ some in cc)
    go false (Ok x) e = (x, e)
    go false (Err c) e = absurd cc

some_map : (f : Plains → Plain) (o : Option Plains) (y : Plain) → option_map f o ≡ Some y → (x : Plains) × (o ≡ Some x) × (f x ≡ y)
some_map f (Some x) y e = (x, refl, cc)
some_map f None y e = absurd cc

-- entries are as many as their words
entries_line : (f : Plain → List Line) (g : ℕ → Option Plain) → ((w : ℕ) (v : Plain) → g w ≡ Some v → is_null v ≡ false → HasLine (f v)) → (ws : List ℕ) (vs : Plains) (v : Plain) → plains_of_all_words g ws ≡ Some vs → array_or_null vs ≡ v → is_null v ≡ false → HasLine (array_lines f (entries_in v))
entries_line f g h [] vs v e is some = let same : none ≡ vs = cc in absurd (let no : is_null (array_or_null none) ≡ false = ap (λ (x : Plains). is_null (array_or_null x)) same ∙ ap is_null is ∙ some in cc)
entries_line f g h (w ∷ ws) vs v e is some =
    let (u, us, one, others, parts) = then_more_is (g w) (plains_of_all_words g ws) vs e in
    let lines : array_lines f (entries_in v) ≡ array_lines f (more u us) = ap (λ (x : Plain). array_lines f (entries_in x)) (sym is) ∙ ap (λ (x : Plains). array_lines f (entries_in (array_or_null x))) parts in
    rw lines (dashed_line (entry_lines_or_null_line u (f u)) (array_lines f us) (or_null_line u (f u) (h w u one)))

plain_line : (p : List ℕ) (s : Shape) (w : ℕ) (v : Plain) → plain_of p s w ≡ Some v → is_null v ≡ false → HasLine (block_lines s v)
unfolding plain_of block_lines
plain_line p number w v e some = record { first = _; others = []; is = refl }
plain_line p text w v e some = record { first = _; others = []; is = refl }
plain_line p hash w v e some = record { first = _; others = []; is = refl }
plain_line p (array s) w v e some =
    let (ws, is) = found_some w (λ ws. option_map array_or_null (plains_of_all_words (plain_of p s) ws)) (run_entries_of_kind_in_payload_at_word ARRAY p w) v e some in
    let (vs, each, made) = some_map array_or_null (plains_of_all_words (plain_of p s) ws) v is in
    entries_line (block_lines s) (plain_of p s) (plain_line p s) ws vs v each made some
plain_line p (object n fs) w v e some =
    let (ws, is) = found_some w (λ ws. option_map trimmed_object_or_null (plains_of p fs ws)) (run_entries_of_kind_in_payload_at_word OBJECT p w) v e some in
    let (vs, all, made) = some_map trimmed_object_or_null (plains_of p fs ws) v is in
    let lines : fields_lines fs (entries_in v) ≡ fields_lines fs vs = ap (λ (x : Plain). fields_lines fs (entries_in x)) (sym made) ∙ object_value_lines fs vs in
    rw lines (fields_line p fs ws vs all (sym (obj_null vs) ∙ ap is_null made ∙ some))

some_is : (o : Option Plain) → is_some o ≡ true → (x : Plain) × (o ≡ Some x)
some_is (Some x) e = (x, refl)
some_is None e = absurd cc

pub block_line : (p : List ℕ) (k : Kind) (w : ℕ) → is_sound p k w ≡ true → is_null (value_at p k w) ≡ false → HasLine (block_lines (shape_of k) (value_at p k w))
unfolding is_sound value_at
block_line p k w h some = let (v, e) = some_is (plain_of p (shape_of k) w) h in rw e (plain_line p (shape_of k) w v e (rw e at some))
