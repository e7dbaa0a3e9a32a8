-- The entries and fields that are still to be written.
use Rattle.std.proofs.Common.{◌≡◌, ℕ, ◌+◌, ◌<◌, ◌≤◌, true, false, List, [], ◌∷◌, ◌++◌, length, get_or, drop, Option, Some, None, refl, ap, ◌∙◌}
use Rattle.std.specs.Prelude.{is_some, unwrap_or}
use Rattle.std.proofs.lemmas.List.{drop_more, drop_all}
use Rattle.adb_view.specs.Plain.{Plain, null, int, blob, arr, obj, Plains, none, more, plains_if_first_and_rest, plains_of_all_words, plain_of, plains_of}
use Rattle.adb_schema.specs.adb_fields.Fields.{are_all_sound, values_at}
use Rattle.adb_view.specs.Schema.{field_name_text, shape_of, shapes_of}
use Rattle.adb_view.specs.Values.{is_sound, value_at}
use Rattle.adb_view.specs.declared.tables.Kind.{Kind}
use Rattle.adb_view.specs.declared.tables.Field.{Field}
use Rattle.adb_dump.specs.Dump.{Line, block_lines, lines_with_dash_before_first, array_lines, fields_lines, named_lines, entry_lines_or_null_line, field_lines_unless_null}
use Rattle.adb_dump.specs.Words.{is_null, are_null, fields_sound, fields_at}

abbrev pub entries_left : List ℕ → Kind → List ℕ → ℕ → List Line
entries_left p k words i = array_lines (block_lines (shape_of k)) (values_at p k (drop i words))

abbrev pub fields_left : List ℕ → List Field → List ℕ → ℕ → List Line
fields_left p fields words i = fields_lines (shapes_of (drop i fields)) (fields_at p (drop i fields) (drop i words))

-- a list of values that was found: its first value and the others were
record Found (v : Option Plain) (vs : Option Plains) : Type 0 where
  first : is_some v ≡ true
  others : is_some vs ≡ true
  value : unwrap_or (plains_if_first_and_rest v vs) none ≡ more (unwrap_or v null) (unwrap_or vs none)

found : (v : Option Plain) (vs : Option Plains) → is_some (plains_if_first_and_rest v vs) ≡ true → Found v vs
found (Some v) (Some vs) e = record { first = refl; others = refl; value = refl }
found (Some v) None e = absurd cc
found None vs e = absurd cc

-- ---- entries

pub record EntryStep (p : List ℕ) (k : Kind) (word : ℕ) (words : List ℕ) (rest : List ℕ) : Type 0 where
  pub here : is_sound p k word ≡ true
  pub later : are_all_sound p k rest ≡ true
  pub value : values_at p k words ≡ more (value_at p k word) (values_at p k rest)

first_entry : (p : List ℕ) (k : Kind) (word : ℕ) (rest : List ℕ) → are_all_sound p k (word ∷ rest) ≡ true → EntryStep p k word (word ∷ rest) rest
unfolding are_all_sound values_at is_sound value_at
first_entry p k word rest h = let f = found (plain_of p (shape_of k) word) (plains_of_all_words (plain_of p (shape_of k)) rest) h in record { here = f.first; later = f.others; value = f.value }

pub entry_step : (p : List ℕ) (k : Kind) (words : List ℕ) (i : ℕ) → i < length words → are_all_sound p k (drop i words) ≡ true → EntryStep p k (get_or words i 0) (drop i words) (drop (i + 1) words)
entry_step p k words i lt h =
    let e = drop_more words i 0 lt in
    rw e (first_entry p k (get_or words i 0) (drop (i + 1) words) (rw e at h))

pub entries_more : (p : List ℕ) (k : Kind) (words : List ℕ) (i : ℕ) → i < length words → are_all_sound p k (drop i words) ≡ true
    → entries_left p k words i ≡ lines_with_dash_before_first (entry_lines_or_null_line (value_at p k (get_or words i 0)) (block_lines (shape_of k) (value_at p k (get_or words i 0)))) ++ entries_left p k words (i + 1)
entries_more p k words i lt h = ap (array_lines (block_lines (shape_of k))) (entry_step p k words i lt h).value

pub entries_done : (p : List ℕ) (k : Kind) (words : List ℕ) (i : ℕ) → length words ≤ i → entries_left p k words i ≡ []
unfolding values_at
entries_done p k words i le = rw (drop_all i words le) refl

-- ---- fields

pub record FieldStep (p : List ℕ) (f : Field) (word : ℕ) (fields : List Field) (words : List ℕ) (others : List Field) (rest : List ℕ) : Type 0 where
  pub here : is_sound p f.kind word ≡ true
  pub later : fields_sound p others rest ≡ true
  pub value : fields_at p fields words ≡ more (value_at p f.kind word) (fields_at p others rest)

first_field : (p : List ℕ) (f : Field) (word : ℕ) (others : List Field) (rest : List ℕ) → fields_sound p (f ∷ others) (word ∷ rest) ≡ true → FieldStep p f word (f ∷ others) (word ∷ rest) others rest
unfolding fields_sound fields_at is_sound value_at plains_of
first_field p f word others rest h = let g = found (plain_of p (shape_of f.kind) word) (plains_of p (shapes_of others) rest) h in record { here = g.first; later = g.others; value = g.value }

pub field_step : (p : List ℕ) (fields : List Field) (words : List ℕ) (i : ℕ) (d : Field) → i < length fields → i < length words → fields_sound p (drop i fields) (drop i words) ≡ true
    → FieldStep p (get_or fields i d) (get_or words i 0) (drop i fields) (drop i words) (drop (i + 1) fields) (drop (i + 1) words)
field_step p fields words i d lt lt' h =
    let e = drop_more fields i d lt in
    let e' = drop_more words i 0 lt' in
    rw (e, e') (first_field p (get_or fields i d) (get_or words i 0) (drop (i + 1) fields) (drop (i + 1) words) (rw (e, e') at h))

-- no words are left, or no fields
no_words : (p : List ℕ) (fields : List Field) → fields_at p fields [] ≡ none
unfolding fields_at plains_of
no_words p [] = refl
no_words p (f ∷ fs) = refl

pub fields_none : (p : List ℕ) (fields : List Field) (words : List ℕ) (i : ℕ) → length words ≤ i → fields_at p (drop i fields) (drop i words) ≡ none
fields_none p fields words i le = rw (drop_all i words le) (no_words p (drop i fields))

pub fields_past : (p : List ℕ) (fields : List Field) (words : List ℕ) (i : ℕ) → length fields ≤ i → fields_at p (drop i fields) (drop i words) ≡ none
unfolding fields_at plains_of
fields_past p fields words i le = rw (drop_all i fields le) refl

lines_of_none : (fields : List Field) → fields_lines (shapes_of fields) none ≡ []
unfolding fields_lines
lines_of_none [] = refl
lines_of_none (f ∷ fs) = refl

pub fields_done : (p : List ℕ) (fields : List Field) (words : List ℕ) (i : ℕ) → length words ≤ i → fields_left p fields words i ≡ []
fields_done p fields words i le = ap (fields_lines (shapes_of (drop i fields))) (fields_none p fields words i le) ∙ lines_of_none (drop i fields)

pub fields_over : (p : List ℕ) (fields : List Field) (words : List ℕ) (i : ℕ) → length fields ≤ i → fields_left p fields words i ≡ []
fields_over p fields words i le = ap (fields_lines (shapes_of (drop i fields))) (fields_past p fields words i le) ∙ lines_of_none (drop i fields)

-- the lines of a field, if it is Null and if it is not
fields_first : (f : Field) (others : List Field) (v : Plain) (vs : Plains) → fields_lines (shapes_of (f ∷ others)) (more v vs) ≡ field_lines_unless_null v (named_lines (shape_of f.kind) (field_name_text f.name) v) ++ fields_lines (shapes_of others) vs
unfolding fields_lines
fields_first f others v vs = refl

fields_more : (p : List ℕ) (fields : List Field) (words : List ℕ) (i : ℕ) (d : Field) → i < length fields → i < length words → fields_sound p (drop i fields) (drop i words) ≡ true
    → fields_left p fields words i ≡ field_lines_unless_null (value_at p (get_or fields i d).kind (get_or words i 0)) (named_lines (shape_of (get_or fields i d).kind) (field_name_text (get_or fields i d).name) (value_at p (get_or fields i d).kind (get_or words i 0))) ++ fields_left p fields words (i + 1)
fields_more p fields words i d lt lt' h =
    let s = field_step p fields words i d lt lt' h in
    ap (fields_lines (shapes_of (drop i fields))) s.value ∙ ap (λ (fs : List Field). fields_lines (shapes_of fs) (more (value_at p (get_or fields i d).kind (get_or words i 0)) (fields_at p (drop (i + 1) fields) (drop (i + 1) words)))) (drop_more fields i d lt)
    ∙ fields_first (get_or fields i d) (drop (i + 1) fields) (value_at p (get_or fields i d).kind (get_or words i 0)) (fields_at p (drop (i + 1) fields) (drop (i + 1) words))

pub field_lines_unless_null-true : (v : Plain) (ls : List Line) → is_null v ≡ true → field_lines_unless_null v ls ≡ []
field_lines_unless_null-true null ls e = refl
field_lines_unless_null-true (int n) ls e = absurd cc
field_lines_unless_null-true (blob b) ls e = absurd cc
field_lines_unless_null-true (arr vs) ls e = absurd cc
field_lines_unless_null-true (obj vs) ls e = absurd cc

pub field_lines_unless_null-false : (v : Plain) (ls : List Line) → is_null v ≡ false → field_lines_unless_null v ls ≡ ls
field_lines_unless_null-false null ls e = absurd cc
field_lines_unless_null-false (int n) ls e = refl
field_lines_unless_null-false (blob b) ls e = refl
field_lines_unless_null-false (arr vs) ls e = refl
field_lines_unless_null-false (obj vs) ls e = refl

pub fields_skip : (p : List ℕ) (fields : List Field) (words : List ℕ) (i : ℕ) (d : Field) → i < length fields → i < length words → fields_sound p (drop i fields) (drop i words) ≡ true → is_null (value_at p (get_or fields i d).kind (get_or words i 0)) ≡ true
    → fields_left p fields words i ≡ fields_left p fields words (i + 1)
fields_skip p fields words i d lt lt' h n =
    fields_more p fields words i d lt lt' h ∙ ap (λ (ls : List Line). ls ++ fields_left p fields words (i + 1)) (field_lines_unless_null-true (value_at p (get_or fields i d).kind (get_or words i 0)) _ n)

pub fields_next : (p : List ℕ) (fields : List Field) (words : List ℕ) (i : ℕ) (d : Field) → i < length fields → i < length words → fields_sound p (drop i fields) (drop i words) ≡ true → is_null (value_at p (get_or fields i d).kind (get_or words i 0)) ≡ false
    → fields_left p fields words i ≡ named_lines (shape_of (get_or fields i d).kind) (field_name_text (get_or fields i d).name) (value_at p (get_or fields i d).kind (get_or words i 0)) ++ fields_left p fields words (i + 1)
fields_next p fields words i d lt lt' h n =
    fields_more p fields words i d lt lt' h ∙ ap (λ (ls : List Line). ls ++ fields_left p fields words (i + 1)) (field_lines_unless_null-false (value_at p (get_or fields i d).kind (get_or words i 0)) _ n)

-- ---- which of them are Null

and_null : (v : Plain) (vs : Plains) → is_null v ≡ true → are_null (more v vs) ≡ are_null vs
and_null v vs e = rw e refl

no_null : (v : Plain) (vs : Plains) → is_null v ≡ false → are_null (more v vs) ≡ false
no_null v vs e = rw e refl

pub field_here : (p : List ℕ) (fields : List Field) (words : List ℕ) (i : ℕ) (d : Field) → i < length fields → i < length words → fields_sound p (drop i fields) (drop i words) ≡ true → is_sound p (get_or fields i d).kind (get_or words i 0) ≡ true
field_here p fields words i d lt lt' h = (field_step p fields words i d lt lt' h).here

pub fields_later : (p : List ℕ) (fields : List Field) (words : List ℕ) (i : ℕ) (d : Field) → i < length fields → i < length words → fields_sound p (drop i fields) (drop i words) ≡ true → fields_sound p (drop (i + 1) fields) (drop (i + 1) words) ≡ true
fields_later p fields words i d lt lt' h = (field_step p fields words i d lt lt' h).later

pub null_next : (p : List ℕ) (fields : List Field) (words : List ℕ) (i : ℕ) (d : Field) → i < length fields → i < length words → fields_sound p (drop i fields) (drop i words) ≡ true → is_null (value_at p (get_or fields i d).kind (get_or words i 0)) ≡ true
    → are_null (fields_at p (drop i fields) (drop i words)) ≡ are_null (fields_at p (drop (i + 1) fields) (drop (i + 1) words))
null_next p fields words i d lt lt' h n = ap are_null (field_step p fields words i d lt lt' h).value ∙ and_null _ (fields_at p (drop (i + 1) fields) (drop (i + 1) words)) n

pub null_stop : (p : List ℕ) (fields : List Field) (words : List ℕ) (i : ℕ) (d : Field) → i < length fields → i < length words → fields_sound p (drop i fields) (drop i words) ≡ true → is_null (value_at p (get_or fields i d).kind (get_or words i 0)) ≡ false
    → are_null (fields_at p (drop i fields) (drop i words)) ≡ false
null_stop p fields words i d lt lt' h n = ap are_null (field_step p fields words i d lt lt' h).value ∙ no_null _ (fields_at p (drop (i + 1) fields) (drop (i + 1) words)) n

pub null_done : (p : List ℕ) (fields : List Field) (words : List ℕ) (i : ℕ) → length words ≤ i → are_null (fields_at p (drop i fields) (drop i words)) ≡ true
null_done p fields words i le = ap are_null (fields_none p fields words i le)

pub null_over : (p : List ℕ) (fields : List Field) (words : List ℕ) (i : ℕ) → length fields ≤ i → are_null (fields_at p (drop i fields) (drop i words)) ≡ true
null_over p fields words i le = ap are_null (fields_past p fields words i le)
