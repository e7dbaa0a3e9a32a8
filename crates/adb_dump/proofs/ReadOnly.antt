-- The reader accepts the lines of normal values alone.
use Rattle.std.proofs.Common.{◌≡◌, ◌≢◌, ℕ, zero, suc, ◌+◌, ◌^◌, ◌≤◌, eqb, ltb, List, [], ◌∷◌, ◌++◌, length, drop, Option, Some, None, option_and_then, Ok, Err, refl, sym, ap, subst, ◌∙◌, append_assoc, arith, inl, inr}
use Rattle.std.specs.Prelude.{codes, bytes_eq}
use Rattle.std.specs.Str.Parse.{digits_value}
use Rattle.std.proofs.lemmas.Bool.{eqb-true, ltb-true}
use Rattle.std.proofs.lemmas.List.{length-append}
use Rattle.adb_view.specs.Plain.{Plain, null, int, blob, arr, obj, Plains, none, more, prepend_plain_unless_last_null, without_last_nulls, Shape, number, text, hash, array, object, Fields, no_fields, field, IsNormal, AreNormal}
use Rattle.adb_view.specs.Shaped.{Each, HasShape, HaveShapes}
use Rattle.adb_view.proofs.FoundShapes.{shape_null}
use Rattle.adb_dump.specs.Dump.{Line, begins_with_byte, int_or_null_line, text_or_null_line, hash_or_null_line, indent, lines_with_dash_before_first, entry_lines_or_null_line, array_lines, named_line, name_line_above_indented_lines, field_lines_unless_null, block_lines, named_lines, fields_lines}
use Rattle.base_core.specs.Lists.{and_then}
use Rattle.base_core.proofs.AtName.{is_name}
use Rattle.adb_dump.specs.ReadBack.{ResultOrBadLine, mapped_or_bad_line_shifted_by, strip_prefix, end_block_or_add_line, block_and_lines_after, quoted_text_read_with_recursion_bound, bytes_of_hex_digits_unchecked, blob_unless_empty, int_of_line_of_unchecked_form, text_of_line_of_unchecked_form, hash_of_line_of_unchecked_form, value_if_printed_as_line, single_line_value, entry_read, entries_from_dash_line, entries_read_with_recursion_bound, array_or_bad_line_if_empty, object_or_bad_line_if_empty, fields_read_with_value_on_line, fields_read_with_value_below, fields_read_by_name_match, block_read, named_read, fields_read}
use Rattle.adb_dump.proofs.Booleans.{chosen}

bind_ok : {A B : Type 0} (r : ResultOrBadLine A) (f : A → ResultOrBadLine B) (y : B) → and_then r f ≡ Ok y → (x : A) × (r ≡ Ok x) × (f x ≡ Ok y)
bind_ok (Ok x) f y e = (x, refl, e)
bind_ok (Err k) f y e = absurd cc

behind_ok : {A B : Type 0} (n : ℕ) (f : A → B) (r : ResultOrBadLine A) (y : B) → mapped_or_bad_line_shifted_by n f r ≡ Ok y → (x : A) × (r ≡ Ok x) × (f x ≡ y)
behind_ok n f (Ok x) y e = (x, refl, cc)
behind_ok n f (Err k) y e = absurd cc

pub if_form_ok : (form : Plain → Line) (l : Line) (o : Option Plain) (v : Plain) → value_if_printed_as_line form l o ≡ Ok v → (o ≡ Some v) × (form v ≡ l)
if_form_ok form l None v e = absurd cc
if_form_ok form l (Some u) v e =
    elim (chosen (bytes_eq (form u) l) _ _ _ e) [
      | inl x ↦ let f = x.1 in let same : u ≡ v = cc in (ap Some same, ap form (sym same) ∙ is_name (form u) l x.0)
      | inr x ↦ absurd (let f = x.1 in cc)
    ]

only_line_ok : (f : Line → ResultOrBadLine Plain) (ls : List Line) (v : Plain) → single_line_value f ls ≡ Ok v → (l : Line) × (ls ≡ l ∷ []) × (f l ≡ Ok v)
only_line_ok f [] v e = absurd cc
only_line_ok f (l ∷ []) v e = (l, refl, e)
only_line_ok f (l ∷ m ∷ ls) v e = absurd (let (x, a, b) = bind_ok (f l) (λ v. Err 1) v e in cc)

pub strip_prefix_some : (p l r : List ℕ) → strip_prefix p l ≡ Some r → l ≡ p ++ r
strip_prefix_some [] l r e = cc
strip_prefix_some (p ∷ ps) [] r e = absurd cc
strip_prefix_some (p ∷ ps) (c ∷ cs) r e =
    elim (chosen (eqb p c) _ _ _ e) [
      | inl x ↦ let head : p ≡ c = eqb-true _ _ x.0 in let tail = strip_prefix_some ps cs r x.1 in cc
      | inr x ↦ absurd (let f = x.1 in cc)
    ]

pub split_block_parts : (ls : List Line) → ls ≡ indent (block_and_lines_after ls).0 ++ (block_and_lines_after ls).1
split_block_parts [] = refl
split_block_parts (l ∷ ls) = go (strip_prefix (32 ∷ 32 ∷ []) l) refl (split_block_parts ls)
  where
    go : (o : Option Line) → strip_prefix (32 ∷ 32 ∷ []) l ≡ o → ls ≡ indent (block_and_lines_after ls).0 ++ (block_and_lines_after ls).1 → l ∷ ls ≡ indent (end_block_or_add_line l ls o (block_and_lines_after ls)).0 ++ (end_block_or_add_line l ls o (block_and_lines_after ls)).1
    go None e h = refl
    go (Some inner) e h = let is = strip_prefix_some (32 ∷ 32 ∷ []) l inner e in cc

-- ---- one line

abbrev pub Fits1 : Shape → Plain → Type 0
Fits1 s v = (v ≢ null) × IsNormal v × HasShape s v

pub made_blob_some : (b : List ℕ) (v : Plain) → blob_unless_empty b ≡ Some v → (v ≡ blob b) × (b ≢ [])
made_blob_some [] v e = absurd cc
made_blob_some (c ∷ cs) v e = (cc, λ f. cc)

blob_fits : (s : Shape) (b : List ℕ) (v : Plain) → ((x : List ℕ) → HasShape s (blob x)) → (v ≡ blob b) × (b ≢ []) → Fits1 s v
unfolding IsNormal
blob_fits s b v h (e, ne) = (λ f. cc, subst IsNormal (sym e) ne, subst (HasShape s) (sym e) (h b))

int_fits : (l : Line) (v : Plain) → int_of_line_of_unchecked_form l ≡ Some v → Fits1 number v
unfolding IsNormal HasShape
int_fits l v e =
    elim (chosen (ltb (digits_value 10 l) (2 ^ 64)) _ _ _ e) [
      | inl x ↦ let is : v ≡ int (digits_value 10 l) = (let f = x.1 in cc) in (λ f. cc, subst IsNormal (sym is) (ltb-true _ _ x.0), subst (HasShape number) (sym is) tt)
      | inr x ↦ absurd (let f = x.1 in cc)
    ]

text_fits : (l : Line) (v : Plain) → text_of_line_of_unchecked_form l ≡ Some v → Fits1 text v
unfolding HasShape
text_fits l v e =
    elim (chosen (begins_with_byte 34 l) _ _ _ e) [
      | inl x ↦ let (b, is, made) = some_then blob_unless_empty (quoted_text_read_with_recursion_bound (length l) (drop 1 l)) v x.1 in blob_fits text b v (λ y. tt) (made_blob_some b v made)
      | inr x ↦ blob_fits text l v (λ y. tt) (made_blob_some l v x.1)
    ]
  where
    some_then : (f : List ℕ → Option Plain) (o : Option (List ℕ)) (y : Plain) → option_and_then f o ≡ Some y → (x : List ℕ) × (o ≡ Some x) × (f x ≡ Some y)
    some_then f (Some x) y e = (x, refl, e)
    some_then f None y e = absurd cc

hash_fits : (l : Line) (v : Plain) → hash_of_line_of_unchecked_form l ≡ Some v → Fits1 hash v
unfolding HasShape
hash_fits l v e = blob_fits hash (bytes_of_hex_digits_unchecked l) v (λ y. tt) (made_blob_some (bytes_of_hex_digits_unchecked l) v e)

-- ---- entries

-- what reading an entry says
abbrev EntryOnly : (Plain → List Line) → (List Line → ResultOrBadLine Plain) → (Plain → Type 0) → Type 0
EntryOnly f r Q = (l : Line) (ls : List Line) (v : Plain) → entry_read r l ls ≡ Ok v → (entry_lines_or_null_line v (f v) ≡ l ∷ ls) × Q v

dash_only : (f : Plain → List Line) (r : List Line → ResultOrBadLine Plain) (Q : Plain → Type 0) → EntryOnly f r Q → (n : ℕ) (l : Line) (ls : List Line) (o : Option Line) (vs : Plains) → strip_prefix (45 ∷ 32 ∷ []) l ≡ o
    → ((us : Plains) → entries_read_with_recursion_bound r n (block_and_lines_after ls).1 ≡ Ok us → (array_lines f us ≡ (block_and_lines_after ls).1) × Each Q us) → entries_from_dash_line r (entries_read_with_recursion_bound r n) (block_and_lines_after ls) o ≡ Ok vs → (array_lines f vs ≡ l ∷ ls) × Each Q vs
dash_only f r Q h n l ls None vs i g e = absurd cc
dash_only f r Q h n l ls (Some inner) vs i g e =
    let (v, one, a) = bind_ok (entry_read r inner (block_and_lines_after ls).0) (λ v. mapped_or_bad_line_shifted_by (1 + length (block_and_lines_after ls).0) (more v) (entries_read_with_recursion_bound r n (block_and_lines_after ls).1)) vs e in
    let (us, others, is) = behind_ok (1 + length (block_and_lines_after ls).0) (more v) (entries_read_with_recursion_bound r n (block_and_lines_after ls).1) vs a in
    let first = h inner (block_and_lines_after ls).0 v one in
    let rest = g us others in
    let line = strip_prefix_some (45 ∷ 32 ∷ []) l inner i in
    let lines : array_lines f (more v us) ≡ l ∷ ls = ap (λ (x : List Line). lines_with_dash_before_first x ++ array_lines f us) first.0 ∙ ap (λ (x : List Line). ((45 ∷ 32 ∷ inner) ∷ indent (block_and_lines_after ls).0) ++ x) rest.0 ∙ cons_same (45 ∷ 32 ∷ inner) l (indent (block_and_lines_after ls).0 ++ (block_and_lines_after ls).1) ls (sym line) (sym (split_block_parts ls)) in
    subst (λ (x : Plains). (array_lines f x ≡ l ∷ ls) × Each Q x) is (lines, (first.1, rest.1))
  where
    cons_same : (x y : Line) (xs ys : List Line) → x ≡ y → xs ≡ ys → x ∷ xs ≡ y ∷ ys
    cons_same x y xs ys a b = cc

entries_only : (f : Plain → List Line) (r : List Line → ResultOrBadLine Plain) (Q : Plain → Type 0) → EntryOnly f r Q → (n : ℕ) (ls : List Line) (vs : Plains) → length ls ≤ n → entries_read_with_recursion_bound r n ls ≡ Ok vs → (array_lines f vs ≡ ls) × Each Q vs
entries_only f r Q h zero [] vs le e = let is : vs ≡ none = cc in (rw is refl, rw is tt)
entries_only f r Q h zero (l ∷ ls) vs le e = absurd (omega arith)
entries_only f r Q h (suc n) [] vs le e = let is : vs ≡ none = cc in (rw is refl, rw is tt)
entries_only f r Q h (suc n) (l ∷ ls) vs le e =
    let shorter = ap length (split_block_parts ls) ∙ length-append (indent (block_and_lines_after ls).0) (block_and_lines_after ls).1 in
    dash_only f r Q h n l ls (strip_prefix (45 ∷ 32 ∷ []) l) vs refl (λ us g. entries_only f r Q h n (block_and_lines_after ls).1 us (omega arith) g) e

-- ---- values

-- what reading a value says
abbrev pub BlockOnly : Shape → Type 0
BlockOnly s = (ls : List Line) (v : Plain) → block_read s ls ≡ Ok v → (block_lines s v ≡ ls) × Fits1 s v

pub keeps : (v : Plain) (us : Plains) → v ≢ null → prepend_plain_unless_last_null v us ≡ more v us
keeps null us ne = absurd (ne refl)
keeps (int n) us ne = refl
keeps (blob b) us ne = refl
keeps (arr a) us ne = refl
keeps (obj a) us ne = refl

pub entry_lines_or_null_line-is : (v : Plain) (ls : List Line) → v ≢ null → entry_lines_or_null_line v ls ≡ ls
entry_lines_or_null_line-is null ls ne = absurd (ne refl)
entry_lines_or_null_line-is (int n) ls ne = refl
entry_lines_or_null_line-is (blob b) ls ne = refl
entry_lines_or_null_line-is (arr a) ls ne = refl
entry_lines_or_null_line-is (obj a) ls ne = refl

field_lines_unless_null-is : (v : Plain) (ls : List Line) → v ≢ null → field_lines_unless_null v ls ≡ ls
field_lines_unless_null-is null ls ne = absurd (ne refl)
field_lines_unless_null-is (int n) ls ne = refl
field_lines_unless_null-is (blob b) ls ne = refl
field_lines_unless_null-is (arr a) ls ne = refl
field_lines_unless_null-is (obj a) ls ne = refl

-- an entry: `null`, or a value
abbrev EntryFits : Shape → Plain → Type 0
EntryFits s v = IsNormal v × HasShape s v

entry_only : (s : Shape) → BlockOnly s → EntryOnly (block_lines s) (block_read s) (EntryFits s)
unfolding IsNormal
entry_only s h l ls v e =
    elim (chosen (bytes_eq l (codes "null")) _ _ _ e) [
      | inl x ↦
          let (m, is, ok) = only_line_ok (λ y. Ok null) (l ∷ ls) v x.1 in
          let nothing : v ≡ null = cc in
          let word = is_name l (codes "null") x.0 in
          let lines : codes "null" ∷ [] ≡ l ∷ ls = cc in
          subst (λ (u : Plain). (entry_lines_or_null_line u (block_lines s u) ≡ l ∷ ls) × EntryFits s u) (sym nothing) (lines, (tt, shape_null s))
      | inr x ↦ let r = h (l ∷ ls) v x.1 in (entry_lines_or_null_line-is v (block_lines s v) r.1.0 ∙ r.0, (r.1.1, r.1.2))
    ]

each_split : (s : Shape) (vs : Plains) → Each (EntryFits s) vs → AreNormal vs × Each (HasShape s) vs
unfolding IsNormal
each_split s none h = (tt, tt)
each_split s (more v vs) h = let r = each_split s vs h.1 in ((h.0.0, r.0), (h.0.1, r.1))

one_only : (form : Plain → Line) (read : Line → Option Plain) (s : Shape) → ((l : Line) (v : Plain) → read l ≡ Some v → Fits1 s v) → (ls : List Line) (v : Plain) → single_line_value (λ l. value_if_printed_as_line form l (read l)) ls ≡ Ok v → (form v ∷ [] ≡ ls) × Fits1 s v
one_only form read s h ls v e =
    let (l, is, ok) = only_line_ok (λ l. value_if_printed_as_line form l (read l)) ls v e in
    let (some, line) = if_form_ok form l (read l) v ok in
    (ap (λ (x : Line). x ∷ []) line ∙ sym is, h l v some)

arr_read_ok : (vs : Plains) (v : Plain) → array_or_bad_line_if_empty vs ≡ Ok v → (v ≡ arr vs) × (vs ≢ none)
arr_read_ok none v e = absurd cc
arr_read_ok (more u us) v e = (cc, λ f. cc)

obj_read_ok : (vs : Plains) (v : Plain) → object_or_bad_line_if_empty vs ≡ Ok v → (v ≡ obj vs) × (vs ≢ none)
obj_read_ok none v e = absurd cc
obj_read_ok (more u us) v e = (cc, λ f. cc)

array_only : (s : Shape) → BlockOnly s → BlockOnly (array s)
unfolding block_read block_lines IsNormal HasShape
array_only s h ls v e =
    let (vs, some, made) = bind_ok (entries_read_with_recursion_bound (block_read s) (length ls) ls) array_or_bad_line_if_empty v e in
    let (is, ne) = arr_read_ok vs v made in
    let (lines, fit) = entries_only (block_lines s) (block_read s) (EntryFits s) (entry_only s h) (length ls) ls vs (omega arith) some in
    let (normal, shapes) = each_split s vs fit in
    subst (λ (u : Plain). (block_lines (array s) u ≡ ls) × Fits1 (array s) u) (sym is) (lines, (λ f. cc, (ne, normal), shapes))

-- what reading fields says
pub record FieldsOnly (fs : Fields) (ls : List Line) (vs : Plains) : Type 0 where
  pub lines : fields_lines fs vs ≡ ls
  pub trim : without_last_nulls vs ≡ vs
  pub normal : AreNormal vs
  pub shapes : HaveShapes fs vs

object_only : (which : ℕ) (fs : Fields) → ((ls : List Line) (vs : Plains) → fields_read fs ls ≡ Ok vs → FieldsOnly fs ls vs) → BlockOnly (object which fs)
unfolding block_read block_lines IsNormal HasShape
object_only which fs h ls v e =
    let (vs, some, made) = bind_ok (fields_read fs ls) object_or_bad_line_if_empty v e in
    let (is, ne) = obj_read_ok vs v made in
    let r = h ls vs some in
    subst (λ (u : Plain). (block_lines (object which fs) u ≡ ls) × Fits1 (object which fs) u) (sym is) (r.lines, (λ f. cc, (ne, r.trim, r.normal), r.shapes))

-- a field that is there, and the others
record NamedOnly (s : Shape) (fs : Fields) (name : List ℕ) (rest : Line) (ls : List Line) (vs : Plains) : Type 0 where
  v : Plain
  us : Plains
  is : vs ≡ more v us
  fits : Fits1 s v
  others : List Line
  read : fields_read fs others ≡ Ok us
  lines : named_lines s name v ++ others ≡ (name ++ 58 ∷ rest) ∷ ls

line_only : (s : Shape) (fs : Fields) (name : List ℕ) (form : Plain → Line) (read : Line → Option Plain) → ((l : Line) (v : Plain) → read l ≡ Some v → Fits1 s v) → ((v : Plain) → named_lines s name v ≡ named_line name (form v)) → (rest : Line) (ls : List Line) (vs : Plains) (o : Option Line)
    → strip_prefix (32 ∷ []) rest ≡ o → fields_read_with_value_on_line (λ l. value_if_printed_as_line form l (read l)) (fields_read fs) ls o ≡ Ok vs → NamedOnly s fs name rest ls vs
line_only s fs name form read h k rest ls vs None i e = absurd cc
line_only s fs name form read h k rest ls vs (Some l) i e =
    let (v, one, a) = bind_ok (value_if_printed_as_line form l (read l)) (λ v. mapped_or_bad_line_shifted_by 1 (more v) (fields_read fs ls)) vs e in
    let (us, others, is) = behind_ok 1 (more v) (fields_read fs ls) vs a in
    let (some, line) = if_form_ok form l (read l) v one in
    let word = strip_prefix_some (32 ∷ []) rest l i in
    record {
      v = v;
      us = us;
      is = sym is;
      fits = h l v some;
      others = ls;
      read = others;
      lines = ap (λ (x : List Line). x ++ ls) (k v) ∙ ap (λ (x : Line). (name ++ (58 ∷ 32 ∷ x)) ∷ ls) line ∙ ap (λ (x : Line). (name ++ 58 ∷ x) ∷ ls) (sym word);
    }

below_only : (s : Shape) (fs : Fields) (name : List ℕ) → BlockOnly s → ((v : Plain) → named_lines s name v ≡ name_line_above_indented_lines name (block_lines s v)) → (rest : Line) (ls : List Line) (vs : Plains)
    → fields_read_with_value_below (block_read s) (fields_read fs) (block_and_lines_after ls) rest ≡ Ok vs → NamedOnly s fs name rest ls vs
below_only s fs name h k (c ∷ cs) ls vs e = absurd cc
below_only s fs name h k [] ls vs e =
    let (v, one, a) = bind_ok (mapped_or_bad_line_shifted_by 1 (λ v. v) (block_read s (block_and_lines_after ls).0)) (λ v. mapped_or_bad_line_shifted_by (1 + length (block_and_lines_after ls).0) (more v) (fields_read fs (block_and_lines_after ls).1)) vs e in
    let (u, ok, same) = behind_ok 1 (λ v. v) (block_read s (block_and_lines_after ls).0) v one in
    let (us, others, is) = behind_ok (1 + length (block_and_lines_after ls).0) (more v) (fields_read fs (block_and_lines_after ls).1) vs a in
    let r = h (block_and_lines_after ls).0 v (ok ∙ ap Ok same) in
    record {
      v = v;
      us = us;
      is = sym is;
      fits = r.1;
      others = (block_and_lines_after ls).1;
      read = others;
      lines = ap (λ (x : List Line). x ++ (block_and_lines_after ls).1) (k v) ∙ ap (λ (x : List Line). (name ++ 58 ∷ []) ∷ (indent x ++ (block_and_lines_after ls).1)) r.0 ∙ ap (λ (x : List Line). (name ++ 58 ∷ []) ∷ x) (sym (split_block_parts ls));
    }

named_only : (s : Shape) (fs : Fields) (name : List ℕ) → BlockOnly s → (rest : Line) (ls : List Line) (vs : Plains) → named_read s (fields_read fs) ls rest ≡ Ok vs → NamedOnly s fs name rest ls vs
unfolding named_read named_lines
named_only number fs name h rest ls vs e = line_only number fs name int_or_null_line int_of_line_of_unchecked_form int_fits (λ v. refl) rest ls vs (strip_prefix (32 ∷ []) rest) refl e
named_only text fs name h rest ls vs e = line_only text fs name text_or_null_line text_of_line_of_unchecked_form text_fits (λ v. refl) rest ls vs (strip_prefix (32 ∷ []) rest) refl e
named_only hash fs name h rest ls vs e = line_only hash fs name hash_or_null_line hash_of_line_of_unchecked_form hash_fits (λ v. refl) rest ls vs (strip_prefix (32 ∷ []) rest) refl e
named_only (array s) fs name h rest ls vs e = below_only (array s) fs name h (λ v. refl) rest ls vs e
named_only (object which gs) fs name h rest ls vs e = below_only (object which gs) fs name h (λ v. refl) rest ls vs e

pub some_line : (fs : Fields) (l : Line) (ls : List Line) → fields_lines fs none ≢ l ∷ ls
unfolding fields_lines
some_line no_fields l ls e = cc
some_line (field name s fs) l ls e = cc

one_field : (s : Shape) (fs : Fields) (name : List ℕ) → BlockOnly s → ((ls : List Line) (vs : Plains) → fields_read fs ls ≡ Ok vs → FieldsOnly fs ls vs) → (l : Line) (ls : List Line) (vs : Plains) (o : Option Line)
    → strip_prefix (name ++ 58 ∷ []) l ≡ o → fields_read_by_name_match (mapped_or_bad_line_shifted_by 0 (more null) (fields_read fs (l ∷ ls))) (named_read s (fields_read fs) ls) o ≡ Ok vs → FieldsOnly (field name s fs) (l ∷ ls) vs
unfolding fields_lines IsNormal HasShape
one_field s fs name h k l ls vs None i e =
    let (us, some, is) = behind_ok 0 (more null) (fields_read fs (l ∷ ls)) vs e in
    let r = k (l ∷ ls) us some in
    let ne : us ≢ none = λ f. some_line fs l ls (subst (λ (x : Plains). fields_lines fs x ≡ l ∷ ls) f r.lines) in
    subst (FieldsOnly (field name s fs) (l ∷ ls)) is (record { lines = r.lines; trim = ap (prepend_plain_unless_last_null null) r.trim ∙ keep_null us ne; normal = (tt, r.normal); shapes = (shape_null s, r.shapes) })
  where
    keep_null : (us : Plains) → us ≢ none → prepend_plain_unless_last_null null us ≡ more null us
    keep_null none ne = absurd (ne refl)
    keep_null (more u us) ne = refl
one_field s fs name h k l ls vs (Some rest) i e =
    let n = named_only s fs name h rest ls vs e in
    let r = k n.others n.us n.read in
    let line : l ≡ name ++ 58 ∷ rest = strip_prefix_some (name ++ 58 ∷ []) l rest i ∙ append_assoc name (58 ∷ []) rest in
    let lines : field_lines_unless_null n.v (named_lines s name n.v) ++ fields_lines fs n.us ≡ l ∷ ls =
    ap (λ (x : List Line). x ++ fields_lines fs n.us) (field_lines_unless_null-is n.v (named_lines s name n.v) n.fits.0) ∙ ap (λ (x : List Line). named_lines s name n.v ++ x) r.lines ∙ n.lines ∙ ap (λ (x : Line). x ∷ ls) (sym line) in
    subst (FieldsOnly (field name s fs) (l ∷ ls)) (sym n.is) (record { lines = lines; trim = ap (prepend_plain_unless_last_null n.v) r.trim ∙ keeps n.v n.us n.fits.0; normal = (n.fits.1, r.normal); shapes = (n.fits.2, r.shapes) })

no_fields_only : (ls : List Line) (vs : Plains) → fields_read no_fields ls ≡ Ok vs → FieldsOnly no_fields ls vs
unfolding fields_read fields_lines IsNormal HasShape
no_fields_only [] vs e = let is : none ≡ vs = cc in subst (FieldsOnly no_fields []) is (record { lines = refl; trim = refl; normal = tt; shapes = tt })
no_fields_only (l ∷ ls) vs e = absurd cc

field_only : (s : Shape) (fs : Fields) (name : List ℕ) → BlockOnly s → ((ls : List Line) (vs : Plains) → fields_read fs ls ≡ Ok vs → FieldsOnly fs ls vs) → (ls : List Line) (vs : Plains) → fields_read (field name s fs) ls ≡ Ok vs → FieldsOnly (field name s fs) ls vs
unfolding fields_read fields_lines IsNormal HasShape
field_only s fs name h k [] vs e = let is : none ≡ vs = cc in subst (FieldsOnly (field name s fs) []) is (record { lines = refl; trim = refl; normal = tt; shapes = tt })
field_only s fs name h k (l ∷ ls) vs e = one_field s fs name h k l ls vs (strip_prefix (name ++ 58 ∷ []) l) refl e

mutual
  unfolding fields_read fields_lines block_read block_lines IsNormal HasShape

  pub block_only : (s : Shape) → BlockOnly s
  block_only number = λ ls v e. one_only int_or_null_line int_of_line_of_unchecked_form number int_fits ls v e
  block_only text = λ ls v e. one_only text_or_null_line text_of_line_of_unchecked_form text text_fits ls v e
  block_only hash = λ ls v e. one_only hash_or_null_line hash_of_line_of_unchecked_form hash hash_fits ls v e
  block_only (array s) = array_only s (block_only s)
  block_only (object which fs) = object_only which fs (fields_only fs)

  pub fields_only : (fs : Fields) → (ls : List Line) (vs : Plains) → fields_read fs ls ≡ Ok vs → FieldsOnly fs ls vs
  fields_only no_fields = no_fields_only
  fields_only (field name s fs) = field_only s fs name (block_only s) (fields_only fs)
