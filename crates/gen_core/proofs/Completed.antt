-- The lines before a bad line begin a value's lines.
use Rattle.std.proofs.Common.{◌≡◌, ◌≢◌, ℕ, zero, suc, ◌+◌, ◌≤◌, ◌<◌, ◌^◌, Bool, true, false, cond, ◌&&◌, List, [], ◌∷◌, ◌++◌, length, take, Option, Some, None, Ok, Err, refl, sym, ap, subst, ◌∙◌, append_assoc, arith, inl, inr, lit<}
use Rattle.std.specs.Prelude.{codes, bytes_eq, map}
use Rattle.std.proofs.lemmas.List.{append-nil, length-append, take-append-le}
use Rattle.std.proofs.lemmas.Bool.{and_parts}
use Rattle.adb_view.specs.Plain.{Plain, Plains, null, int, blob, arr, obj, none, more, prepend_plain_unless_last_null, without_last_nulls, Shape, number, text, hash, array, object, Fields, no_fields, field, IsNormal, AreNormal}
use Rattle.adb_view.specs.Shaped.{Each, HasShape, HaveShapes}
use Rattle.adb_view.proofs.FoundShapes.{shape_null}
use Rattle.base_core.specs.Lists.{and_then}
use Rattle.base_core.proofs.AtName.{is_name}
use Rattle.adb_dump.specs.Dump.{Line, int_or_null_line, text_or_null_line, hash_or_null_line, indent, lines_with_dash_before_first, entry_lines_or_null_line, array_lines, block_lines, named_line, name_line_above_indented_lines, named_lines, fields_lines, field_lines_unless_null}
use Rattle.adb_dump.specs.Values.{IsOfBytes, AreOfBytes}
use Rattle.adb_dump.specs.ReadBack.{ResultOrBadLine, mapped_or_bad_line_shifted_by, strip_prefix, block_and_lines_after, single_line_value, entry_read, entries_from_dash_line, entries_read_with_recursion_bound, array_or_bad_line_if_empty, object_or_bad_line_if_empty, fields_read_with_value_on_line, fields_read_with_value_below, value_if_printed_as_line, fields_read_by_name_match, block_read, named_read, fields_read, int_of_line_of_unchecked_form, text_of_line_of_unchecked_form, hash_of_line_of_unchecked_form}
use Rattle.adb_dump.proofs.Booleans.{chosen}
use Rattle.adb_dump.proofs.ReadOnly.{block_only, Fits1, split_block_parts, strip_prefix_some, keeps, entry_lines_or_null_line-is}
use Rattle.adb_dump.proofs.BlockLines.{no_lines}
use Rattle.gen_core.specs.Reads.{line_read}
use Rattle.gen_core.proofs.Reading.{HasOneLine}
use Rattle.gen_core.proofs.Entries.{split_count}
use Rattle.gen_core.proofs.ReadBytes.{block_bytes}
use Rattle.gen_core.proofs.Stable.{arr_bad, obj_bad, later, no_value, no_values, value_number, values_number}

-- ---- lines

indent-append : (xs ys : List Line) → indent (xs ++ ys) ≡ indent xs ++ indent ys
indent-append [] ys = refl
indent-append (x ∷ xs) ys = ap (λ (l : List Line). (codes "  " ++ x) ∷ l) (indent-append xs ys)

indent-len : (xs : List Line) → length (indent xs) ≡ length xs
indent-len [] = refl
indent-len (x ∷ xs) = ap suc (indent-len xs)

take-indent : (n : ℕ) (xs : List Line) → take n (indent xs) ≡ indent (take n xs)
take-indent zero xs = refl
take-indent (suc n) [] = refl
take-indent (suc n) (x ∷ xs) = ap (λ (l : List Line). (codes "  " ++ x) ∷ l) (take-indent n xs)

take-past : (xs ys : List Line) (n : ℕ) → take (length xs + n) (xs ++ ys) ≡ xs ++ take n ys
take-past [] ys n = let e : 0 + n ≡ n = omega arith in ap (λ (k : ℕ). take k ys) e
take-past (x ∷ xs) ys n = let e : suc (length xs) + n ≡ suc (length xs + n) = omega arith in ap (λ (k : ℕ). take k (x ∷ (xs ++ ys))) e ∙ ap (λ (l : List Line). x ∷ l) (take-past xs ys n)

-- lines of which a block of so many is in front, and what the front is
front_in_block : (ls : List Line) (n : ℕ) → n ≤ length (block_and_lines_after ls).0 → take n ls ≡ indent (take n (block_and_lines_after ls).0)
front_in_block ls n le =
    let r = block_and_lines_after ls in
    let within : n ≤ length (indent r.0) = omega (arith, le, indent-len r.0) in
    ap (take n) (split_block_parts ls) ∙ take-append-le n (indent r.0) r.1 within ∙ take-indent n r.0

front_past_block : (ls : List Line) (n j : ℕ) → n ≡ length (block_and_lines_after ls).0 + j → take n ls ≡ indent (block_and_lines_after ls).0 ++ take j (block_and_lines_after ls).1
front_past_block ls n j e =
    let r = block_and_lines_after ls in
    let count : n ≡ length (indent r.0) + j = omega (arith, e, indent-len r.0) in
    ap (take n) (split_block_parts ls) ∙ ap (λ (k : ℕ). take k (indent r.0 ++ r.1)) count ∙ take-past (indent r.0) r.1 j

-- ---- values that fit a shape

-- a value that a field of this shape may have, and that is not Null
pub record Fit (s : Shape) (v : Plain) : Type 0 where
  pub some : v ≢ null
  pub normal : IsNormal v
  pub shape : HasShape s v
  pub bytes : IsOfBytes v

-- a value that an entry of this shape may have
pub record EntryFit (s : Shape) (v : Plain) : Type 0 where
  pub normal : IsNormal v
  pub shape : HasShape s v
  pub bytes : IsOfBytes v

-- values of an object's fields
pub record FieldsFit (fs : Fields) (vs : Plains) : Type 0 where
  pub trim : without_last_nulls vs ≡ vs
  pub normal : AreNormal vs
  pub shapes : HaveShapes fs vs
  pub bytes : AreOfBytes vs

-- values of an array
pub record EntriesFit (s : Shape) (vs : Plains) : Type 0 where
  pub normal : AreNormal vs
  pub shapes : Each (HasShape s) vs
  pub bytes : AreOfBytes vs

read_fit : (s : Shape) (ls : List Line) (v : Plain) → block_read s ls ≡ Ok v → Fit s v
read_fit s ls v e = let o = block_only s ls v e in record { some = o.1.0; normal = o.1.1; shape = o.1.2; bytes = block_bytes s ls v e }

no_more_fit : (fs : Fields) → FieldsFit fs none
unfolding IsNormal HasShape IsOfBytes
no_more_fit no_fields = record { trim = refl; normal = tt; shapes = tt; bytes = tt }
no_more_fit (field name s fs) = record { trim = refl; normal = tt; shapes = tt; bytes = tt }

more_fit : (name : List ℕ) (s : Shape) (fs : Fields) (v : Plain) (vs : Plains) → Fit s v → FieldsFit fs vs → FieldsFit (field name s fs) (more v vs)
unfolding IsNormal HasShape IsOfBytes
more_fit name s fs v vs f g = record { trim = ap (prepend_plain_unless_last_null v) g.trim ∙ keeps v vs f.some; normal = (f.normal, g.normal); shapes = (f.shape, g.shapes); bytes = (f.bytes, g.bytes) }

null_fit : (name : List ℕ) (s : Shape) (fs : Fields) (vs : Plains) → FieldsFit fs vs → FieldsFit (field name s fs) (prepend_plain_unless_last_null null vs)
unfolding IsNormal HasShape IsOfBytes
null_fit name s fs none g = no_more_fit (field name s fs)
null_fit name s fs (more u us) g = record { trim = ap (prepend_plain_unless_last_null null) g.trim; normal = (tt, g.normal); shapes = (shape_null s, g.shapes); bytes = (tt, g.bytes) }

entry_more : (s : Shape) (v : Plain) (vs : Plains) → EntryFit s v → EntriesFit s vs → EntriesFit s (more v vs)
unfolding IsNormal IsOfBytes
entry_more s v vs f g = record { normal = (f.normal, g.normal); shapes = (f.shape, g.shapes); bytes = (f.bytes, g.bytes) }

no_entries : (s : Shape) → EntriesFit s none
unfolding IsNormal IsOfBytes
no_entries s = record { normal = tt; shapes = tt; bytes = tt }

null_entry_fit : (s : Shape) → EntryFit s null
unfolding IsNormal IsOfBytes
null_entry_fit s = record { normal = tt; shape = shape_null s; bytes = tt }

as_entry : (s : Shape) (v : Plain) → Fit s v → EntryFit s v
as_entry s v f = record { normal = f.normal; shape = f.shape; bytes = f.bytes }

array_fit : (s : Shape) (v : Plain) (vs : Plains) → EntriesFit s (more v vs) → Fit (array s) (arr (more v vs))
unfolding IsNormal HasShape IsOfBytes
array_fit s v vs g = record { some = λ e. cc; normal = (λ e. cc, g.normal); shape = g.shapes; bytes = g.bytes }

object_fit : (which : ℕ) (fs : Fields) (v : Plain) (vs : Plains) → FieldsFit fs (more v vs) → Fit (object which fs) (obj (more v vs))
unfolding IsNormal HasShape IsOfBytes
object_fit which fs v vs g = record { some = λ e. cc; normal = (λ e. cc, g.trim, g.normal); shape = g.shapes; bytes = g.bytes }

-- ---- samples

-- each object of a shape has a field
unfoldable mutual
  pub has_samples : Shape → Bool
  has_samples number = true
  has_samples text = true
  has_samples hash = true
  has_samples (array s) = has_samples s
  has_samples (object which no_fields) = false
  has_samples (object which (field name s fs)) = has_samples s && have_samples fs

  pub have_samples : Fields → Bool
  have_samples no_fields = true
  have_samples (field name s fs) = has_samples s && have_samples fs

record Sample (s : Shape) : Type 0 where
  value : Plain
  fit : Fit s value

number_sample : Sample number
unfolding IsNormal HasShape IsOfBytes
number_sample = record { value = int 0; fit = record { some = λ e. cc; normal = lit< tt; shape = tt; bytes = tt } }

text_sample : Sample text
unfolding IsNormal HasShape IsOfBytes
text_sample = record { value = blob (97 ∷ []); fit = record { some = λ e. cc; normal = λ e. cc; shape = tt; bytes = (lit< tt, tt) } }

hash_sample : Sample hash
unfolding IsNormal HasShape IsOfBytes
hash_sample = record { value = blob (0 ∷ []); fit = record { some = λ e. cc; normal = λ e. cc; shape = tt; bytes = (lit< tt, tt) } }

array_sample : (s : Shape) → Sample (array s)
array_sample s = record { value = arr (more null none); fit = array_fit s null none (entry_more s null none (null_entry_fit s) (no_entries s)) }

object_sample : (which : ℕ) (name : List ℕ) (s : Shape) (fs : Fields) → Sample s → Sample (object which (field name s fs))
object_sample which name s fs p = record { value = obj (more p.value none); fit = object_fit which (field name s fs) p.value none (more_fit name s fs p.value none p.fit (no_more_fit fs)) }

sample : (s : Shape) → has_samples s ≡ true → Sample s
unfolding has_samples
sample number h = number_sample
sample text h = text_sample
sample hash h = hash_sample
sample (array s) h = array_sample s
sample (object which no_fields) h = absurd cc
sample (object which (field name s fs)) h = object_sample which name s fs (sample s (and_parts (has_samples s) (have_samples fs) h).0)

-- ---- completed lines

-- a value whose lines begin with the lines before the bad one
pub record Completed (s : Shape) (ls : List Line) (k : ℕ) : Type 0 where
  pub value : Plain
  pub fit : Fit s value
  pub count : k ≤ length ls
  pub rest : List Line
  pub lines : block_lines s value ≡ take k ls ++ rest

-- before the first line
at_first : (s : Shape) → Sample s → (ls : List Line) (k : ℕ) → k ≡ 0 → Completed s ls k
at_first s p ls k e = subst (λ (n : ℕ). Completed s ls n) (sym e) (record { value = p.value; fit = p.fit; count = omega arith; rest = block_lines s p.value; lines = refl })

form_zero : (form : Plain → Line) (l : Line) (o : Option Plain) (k : ℕ) → value_if_printed_as_line form l o ≡ no_value k → k ≡ 0
form_zero form l None k e = sym (value_number 0 k e)
form_zero form l (Some v) k e =
    elim (chosen (bytes_eq (form v) l) _ _ _ e) [
      | inl x ↦ absurd (let f = x.1 in cc)
      | inr x ↦ sym (value_number 0 k x.1)
    ]

line_zero : (s : Shape) (l : Line) (k : ℕ) → line_read s l ≡ no_value k → k ≡ 0
line_zero number l k e = form_zero int_or_null_line l (int_of_line_of_unchecked_form l) k e
line_zero text l k e = form_zero text_or_null_line l (text_of_line_of_unchecked_form l) k e
line_zero hash l k e = form_zero hash_or_null_line l (hash_of_line_of_unchecked_form l) k e
line_zero (array s) l k e = sym (value_number 0 k e)
line_zero (object which fs) l k e = sym (value_number 0 k e)

line_completed : (s : Shape) → HasOneLine s → Sample s → (ls : List Line) (k : ℕ) → block_read s ls ≡ Err k → Completed s ls k
line_completed s h p ls k e = go ls (sym (h ls) ∙ e)
  where
    go : (ls : List Line) → single_line_value (line_read s) ls ≡ no_value k → Completed s ls k
    go [] e = at_first s p [] k (sym (value_number 0 k e))
    go (l ∷ []) e = at_first s p (l ∷ []) k (line_zero s l k e)
    go (l ∷ m ∷ ms) e = by_first (line_read s l) refl e
      where
        by_first : (x : ResultOrBadLine Plain) → line_read s l ≡ x → and_then x (λ v. no_value 1) ≡ no_value k → Completed s (l ∷ m ∷ ms) k
        by_first (Err j) is e = at_first s p (l ∷ m ∷ ms) k (line_zero s l k (is ∙ e))
        by_first (Ok v) is e =
            let one : 1 ≡ k = value_number 1 k e in
            let read : block_read s (l ∷ []) ≡ Ok v = h (l ∷ []) ∙ is in
            subst (λ (n : ℕ). Completed s (l ∷ m ∷ ms) n) one (record { value = v; fit = read_fit s (l ∷ []) v read; count = omega arith; rest = []; lines = (block_only s (l ∷ []) v read).0 })

-- ---- entries

record EntryCompleted (s : Shape) (ls : List Line) (k : ℕ) : Type 0 where
  value : Plain
  fit : EntryFit s value
  count : k ≤ length ls
  rest : List Line
  lines : entry_lines_or_null_line value (block_lines s value) ≡ take k ls ++ rest

-- lines before the bad one can be completed
abbrev pub Completes : Shape → Type 0
Completes s = (ls : List Line) (k : ℕ) → block_read s ls ≡ Err k → Completed s ls k

entry_completed : (s : Shape) → Completes s → (l : Line) (ls : List Line) (k : ℕ) → entry_read (block_read s) l ls ≡ Err k → EntryCompleted s (l ∷ ls) k
entry_completed s h l ls k e =
    elim (chosen (bytes_eq l (codes "null")) _ _ _ e) [
      | inl x ↦ at_null ls (is_name l (codes "null") x.0) x.1
      | inr x ↦
          let c = h (l ∷ ls) k x.1 in
          record { value = c.value; fit = as_entry s c.value c.fit; count = c.count; rest = c.rest; lines = entry_lines_or_null_line-is c.value (block_lines s c.value) c.fit.some ∙ c.lines }
    ]
  where
    at_null : (ls : List Line) → l ≡ codes "null" → single_line_value (λ x. Ok null) (l ∷ ls) ≡ no_value k → EntryCompleted s (l ∷ ls) k
    at_null [] word e = absurd cc
    at_null (m ∷ ms) word e =
        let one : 1 ≡ k = value_number 1 k e in
        subst (λ (n : ℕ). EntryCompleted s (l ∷ m ∷ ms) n) one (record { value = null; fit = null_entry_fit s; count = omega arith; rest = []; lines = ap (λ (x : Line). x ∷ []) (sym word) })

-- an entry that was read, by its lines
entry_there : (s : Shape) (l : Line) (ls : List Line) (v : Plain) → entry_read (block_read s) l ls ≡ Ok v → (entry_lines_or_null_line v (block_lines s v) ≡ l ∷ ls) × EntryFit s v
entry_there s l ls v e =
    elim (chosen (bytes_eq l (codes "null")) _ _ _ e) [
      | inl x ↦ at_null ls (is_name l (codes "null") x.0) x.1
      | inr x ↦
          let f = read_fit s (l ∷ ls) v x.1 in
          (entry_lines_or_null_line-is v (block_lines s v) f.some ∙ (block_only s (l ∷ ls) v x.1).0, as_entry s v f)
    ]
  where
    at_null : (ls : List Line) → l ≡ codes "null" → single_line_value (λ x. Ok null) (l ∷ ls) ≡ Ok v → (entry_lines_or_null_line v (block_lines s v) ≡ l ∷ ls) × EntryFit s v
    at_null [] word e = let same : null ≡ v = cc in subst (λ (u : Plain). (entry_lines_or_null_line u (block_lines s u) ≡ l ∷ []) × EntryFit s u) same (ap (λ (x : Line). x ∷ []) (sym word), null_entry_fit s)
    at_null (m ∷ ms) word e = absurd cc

record EntriesCompleted (s : Shape) (ls : List Line) (k : ℕ) : Type 0 where
  first : Plain
  others : Plains
  fit : EntriesFit s (more first others)
  count : k ≤ length ls
  rest : List Line
  lines : array_lines (block_lines s) (more first others) ≡ take k ls ++ rest

no_entry : (s : Shape) (ls : List Line) (k : ℕ) → k ≡ 0 → EntriesCompleted s ls k
no_entry s ls k e = subst (λ (n : ℕ). EntriesCompleted s ls n) (sym e) (record {
  first = null;
  others = none;
  fit = entry_more s null none (null_entry_fit s) (no_entries s);
  count = omega arith;
  rest = array_lines (block_lines s) (more null none);
  lines = refl;
})

dash_line : (l m : Line) → Some m ≡ strip_prefix (codes "- ") l → codes "- " ++ m ≡ l
dash_line l m e = sym (strip_prefix_some (codes "- ") l m (sym e))

-- the entry is the one that cannot be read on
entry_ends : (s : Shape) (l m : Line) (ls : List Line) (k : ℕ) → Some m ≡ strip_prefix (codes "- ") l → EntryCompleted s (m ∷ (block_and_lines_after ls).0) k → EntriesCompleted s (l ∷ ls) k
entry_ends s l m ls zero dash c = no_entry s (l ∷ ls) 0 refl
entry_ends s l m ls (suc i) dash c =
    let r = block_and_lines_after ls in
    let within : i ≤ length r.0 = omega (arith, c.count) in
    let front : take i ls ≡ indent (take i r.0) = front_in_block ls i within in
    record {
      first = c.value;
      others = none;
      fit = entry_more s c.value none c.fit (no_entries s);
      count = omega (arith, within, split_count ls);
      rest = indent c.rest;
      lines =
          append-nil (lines_with_dash_before_first (entry_lines_or_null_line c.value (block_lines s c.value))) ∙ ap lines_with_dash_before_first c.lines
          ∙ ap (λ (x : List Line). (codes "- " ++ m) ∷ x) (indent-append (take i r.0) c.rest)
          ∙ ap (λ (x : Line). x ∷ (indent (take i r.0) ++ indent c.rest)) (dash_line l m dash)
          ∙ ap (λ (x : List Line). l ∷ (x ++ indent c.rest)) (sym front);
    }

-- the bad line is after the entry
entry_passed : (s : Shape) (l m : Line) (ls : List Line) (k j : ℕ) (v : Plain) → Some m ≡ strip_prefix (codes "- ") l → entry_read (block_read s) m (block_and_lines_after ls).0 ≡ Ok v → k ≡ 1 + length (block_and_lines_after ls).0 + j → EntriesCompleted s (block_and_lines_after ls).1 j → EntriesCompleted s (l ∷ ls) k
entry_passed s l m ls k j v dash read is c =
    let r = block_and_lines_after ls in
    let t = entry_there s m r.0 v read in
    let n : ℕ = length r.0 + j in
    let front : take n ls ≡ indent r.0 ++ take j r.1 = front_past_block ls n j refl in
    let count : k ≡ suc n = omega (arith, is) in
    record {
      first = v;
      others = more c.first c.others;
      fit = entry_more s v (more c.first c.others) t.1 c.fit;
      count = omega (arith, is, c.count, split_count ls);
      rest = c.rest;
      lines =
          ap (λ (x : List Line). lines_with_dash_before_first x ++ array_lines (block_lines s) (more c.first c.others)) t.0
          ∙ ap (λ (x : List Line). ((codes "- " ++ m) ∷ indent r.0) ++ x) c.lines
          ∙ ap (λ (x : Line). x ∷ (indent r.0 ++ (take j r.1 ++ c.rest))) (dash_line l m dash)
          ∙ ap (λ (x : List Line). l ∷ x) (sym (append_assoc (indent r.0) (take j r.1) c.rest) ∙ ap (λ (x : List Line). x ++ c.rest) (sym front))
          ∙ ap (λ (i : ℕ). take i (l ∷ ls) ++ c.rest) (sym count);
    }

entries_completed : (s : Shape) → Completes s → (n : ℕ) (ls : List Line) (k : ℕ) → entries_read_with_recursion_bound (block_read s) n ls ≡ Err k → EntriesCompleted s ls k
entries_completed s h zero ls k e = absurd cc
entries_completed s h (suc n) [] k e = absurd cc
entries_completed s h (suc n) (l ∷ ls) k e = go (strip_prefix (codes "- ") l) refl (entries_completed s h n (block_and_lines_after ls).1) e
  where
    after : (m : Line) → Some m ≡ strip_prefix (codes "- ") l → ((j : ℕ) → entries_read_with_recursion_bound (block_read s) n (block_and_lines_after ls).1 ≡ Err j → EntriesCompleted s (block_and_lines_after ls).1 j) → (x : ResultOrBadLine Plain) → entry_read (block_read s) m (block_and_lines_after ls).0 ≡ x
        → and_then x (λ v. mapped_or_bad_line_shifted_by (1 + length (block_and_lines_after ls).0) (more v) (entries_read_with_recursion_bound (block_read s) n (block_and_lines_after ls).1)) ≡ no_values k → EntriesCompleted s (l ∷ ls) k
    after m dash next (Err j) is e = entry_ends s l m ls k dash (entry_completed s h m (block_and_lines_after ls).0 k (is ∙ ap no_value (values_number j k e)))
    after m dash next (Ok v) is e =
        let (j, bad, count) = later (1 + length (block_and_lines_after ls).0) v (entries_read_with_recursion_bound (block_read s) n (block_and_lines_after ls).1) k e in
        entry_passed s l m ls k j v dash is count (next j bad)

    go : (o : Option Line) → o ≡ strip_prefix (codes "- ") l → ((j : ℕ) → entries_read_with_recursion_bound (block_read s) n (block_and_lines_after ls).1 ≡ Err j → EntriesCompleted s (block_and_lines_after ls).1 j) → entries_from_dash_line (block_read s) (entries_read_with_recursion_bound (block_read s) n) (block_and_lines_after ls) o ≡ no_values k → EntriesCompleted s (l ∷ ls) k
    go None dash next e = no_entry s (l ∷ ls) k (sym (values_number 0 k e))
    go (Some m) dash next e = after m dash next (entry_read (block_read s) m (block_and_lines_after ls).0) refl e

array_completed : (s : Shape) → Completes s → Completes (array s)
unfolding block_read block_lines
array_completed s h ls k e =
    elim (arr_bad (entries_read_with_recursion_bound (block_read s) (length ls) ls) k e) [
      | inl bad ↦
          let c = entries_completed s h (length ls) ls k bad in
          record { value = arr (more c.first c.others); fit = array_fit s c.first c.others c.fit; count = c.count; rest = c.rest; lines = c.lines }
      | inr nothing ↦ at_first (array s) (array_sample s) ls k (zero_of nothing e)
    ]
  where
    zero_of : entries_read_with_recursion_bound (block_read s) (length ls) ls ≡ Ok none → and_then (entries_read_with_recursion_bound (block_read s) (length ls) ls) array_or_bad_line_if_empty ≡ no_value k → k ≡ 0
    zero_of nothing e = sym (value_number 0 k (sym (ap (λ (r : ResultOrBadLine Plains). and_then r array_or_bad_line_if_empty) nothing) ∙ e))

-- ---- fields

pub record FieldsCompleted (fs : Fields) (ls : List Line) (k : ℕ) : Type 0 where
  pub values : Plains
  pub fit : FieldsFit fs values
  pub count : k ≤ length ls
  pub rest : List Line
  pub lines : fields_lines fs values ≡ take k ls ++ rest

no_field : (fs : Fields) (ls : List Line) (k : ℕ) → k ≡ 0 → FieldsCompleted fs ls k
no_field fs ls k e = subst (λ (n : ℕ). FieldsCompleted fs ls n) (sym e) (record { values = none; fit = no_more_fit fs; count = omega arith; rest = []; lines = no_lines fs })

null_lines : (name : List ℕ) (s : Shape) (fs : Fields) (vs : Plains) → fields_lines (field name s fs) (prepend_plain_unless_last_null null vs) ≡ fields_lines fs vs
unfolding fields_lines
null_lines name s fs none = sym (no_lines fs)
null_lines name s fs (more u us) = refl

more_lines : (name : List ℕ) (s : Shape) (fs : Fields) (v : Plain) (vs : Plains) → v ≢ null → fields_lines (field name s fs) (more v vs) ≡ named_lines s name v ++ fields_lines fs vs
unfolding fields_lines
more_lines name s fs null vs ne = absurd (ne refl)
more_lines name s fs (int n) vs ne = refl
more_lines name s fs (blob b) vs ne = refl
more_lines name s fs (arr a) vs ne = refl
more_lines name s fs (obj a) vs ne = refl

-- lines before the bad one can be completed to fields
abbrev pub FieldsComplete : Fields → Type 0
FieldsComplete fs = (ls : List Line) (k : ℕ) → fields_read fs ls ≡ Err k → FieldsCompleted fs ls k

-- what is known of a field's line
record NamedHere (name : List ℕ) (l rest : Line) : Type 0 where
  is : l ≡ name ++ 58 ∷ rest

named_here : (name : List ℕ) (l rest : Line) → Some rest ≡ strip_prefix (name ++ codes ":") l → NamedHere name l rest
named_here name l rest e = record { is = strip_prefix_some (name ++ codes ":") l rest (sym e) ∙ append_assoc name (58 ∷ []) rest }

-- a field on one line was read, and the bad line is after it
line_passed : (name : List ℕ) (s : Shape) (fs : Fields) (form : Plain → Line) → ((v : Plain) → named_lines s name v ≡ named_line name (form v)) → (l rest word : Line) (ls : List Line) (k j : ℕ) (v : Plain) → NamedHere name l rest → Some word ≡ strip_prefix (codes " ") rest → Fit s v → form v ≡ word
    → k ≡ 1 + j → FieldsCompleted fs ls j → FieldsCompleted (field name s fs) (l ∷ ls) k
line_passed name s fs form h l rest word ls k j v here space f line is c =
    let text_is : rest ≡ 32 ∷ word = strip_prefix_some (codes " ") rest word (sym space) in
    let whole : name ++ (58 ∷ 32 ∷ form v) ≡ l = ap (λ (x : Line). name ++ (58 ∷ 32 ∷ x)) line ∙ ap (λ (x : Line). name ++ 58 ∷ x) (sym text_is) ∙ sym here.is in
    let count : k ≡ suc j = omega (arith, is) in
    record {
      values = more v c.values;
      fit = more_fit name s fs v c.values f c.fit;
      count = omega (arith, is, c.count);
      rest = c.rest;
      lines =
          more_lines name s fs v c.values f.some ∙ ap (λ (x : List Line). x ++ fields_lines fs c.values) (h v)
          ∙ ap (λ (x : Line). x ∷ fields_lines fs c.values) whole ∙ ap (λ (x : List Line). l ∷ x) c.lines
          ∙ ap (λ (n : ℕ). take n (l ∷ ls) ++ c.rest) (sym count);
    }

name_line : (name : List ℕ) (l rest : Line) → NamedHere name l rest → rest ≡ [] → name ++ codes ":" ≡ l
name_line name l rest here e = ap (λ (x : Line). name ++ 58 ∷ x) (sym e) ∙ sym here.is

-- the bad line is in the block below the name
below_ends : (name : List ℕ) (s : Shape) (fs : Fields) → ((v : Plain) → named_lines s name v ≡ name_line_above_indented_lines name (block_lines s v)) → (l rest : Line) (ls : List Line) (k j : ℕ) → NamedHere name l rest → rest ≡ [] → k ≡ 1 + j → Completed s (block_and_lines_after ls).0 j → FieldsCompleted (field name s fs) (l ∷ ls) k
below_ends name s fs h l rest ls k j here e is c =
    let r = block_and_lines_after ls in
    let front : take j ls ≡ indent (take j r.0) = front_in_block ls j c.count in
    let count : k ≡ suc j = omega (arith, is) in
    record {
      values = more c.value none;
      fit = more_fit name s fs c.value none c.fit (no_more_fit fs);
      count = omega (arith, is, c.count, split_count ls);
      rest = indent c.rest;
      lines =
          more_lines name s fs c.value none c.fit.some
          ∙ ap (λ (x : List Line). named_lines s name c.value ++ x) (no_lines fs) ∙ append-nil (named_lines s name c.value) ∙ h c.value
          ∙ ap (λ (x : List Line). (name ++ codes ":") ∷ indent x) c.lines ∙ ap (λ (x : List Line). (name ++ codes ":") ∷ x) (indent-append (take j r.0) c.rest)
          ∙ ap (λ (x : Line). x ∷ (indent (take j r.0) ++ indent c.rest)) (name_line name l rest here e)
          ∙ ap (λ (x : List Line). l ∷ (x ++ indent c.rest)) (sym front)
          ∙ ap (λ (n : ℕ). take n (l ∷ ls) ++ indent c.rest) (sym count);
    }

-- the bad line is after that block
below_passed : (name : List ℕ) (s : Shape) (fs : Fields) → ((v : Plain) → named_lines s name v ≡ name_line_above_indented_lines name (block_lines s v)) → (l rest : Line) (ls : List Line) (k j : ℕ) (v : Plain) → NamedHere name l rest → rest ≡ [] → block_read s (block_and_lines_after ls).0 ≡ Ok v
    → k ≡ 1 + length (block_and_lines_after ls).0 + j → FieldsCompleted fs (block_and_lines_after ls).1 j → FieldsCompleted (field name s fs) (l ∷ ls) k
below_passed name s fs h l rest ls k j v here e read is c =
    let r = block_and_lines_after ls in
    let f = read_fit s r.0 v read in
    let n : ℕ = length r.0 + j in
    let front : take n ls ≡ indent r.0 ++ take j r.1 = front_past_block ls n j refl in
    let count : k ≡ suc n = omega (arith, is) in
    record {
      values = more v c.values;
      fit = more_fit name s fs v c.values f c.fit;
      count = omega (arith, is, c.count, split_count ls);
      rest = c.rest;
      lines =
          more_lines name s fs v c.values f.some ∙ ap (λ (x : List Line). x ++ fields_lines fs c.values) (h v)
          ∙ ap (λ (x : List Line). ((name ++ codes ":") ∷ indent x) ++ fields_lines fs c.values) (block_only s r.0 v read).0
          ∙ ap (λ (x : List Line). ((name ++ codes ":") ∷ indent r.0) ++ x) c.lines
          ∙ ap (λ (x : Line). x ∷ (indent r.0 ++ (take j r.1 ++ c.rest))) (name_line name l rest here e)
          ∙ ap (λ (x : List Line). l ∷ x) (sym (append_assoc (indent r.0) (take j r.1) c.rest) ∙ ap (λ (x : List Line). x ++ c.rest) (sym front))
          ∙ ap (λ (i : ℕ). take i (l ∷ ls) ++ c.rest) (sym count);
    }

-- a field's value on its line
on_line_completed : (name : List ℕ) (s : Shape) (fs : Fields) (form : Plain → Line) (read : Line → Option Plain) → ((v : Plain) → named_lines s name v ≡ named_line name (form v)) → ((l : Line) (v : Plain) → value_if_printed_as_line form l (read l) ≡ Ok v → Fit s v) → FieldsComplete fs
    → (l rest : Line) (ls : List Line) (k : ℕ) → NamedHere name l rest → fields_read_with_value_on_line (λ x. value_if_printed_as_line form x (read x)) (fields_read fs) ls (strip_prefix (codes " ") rest) ≡ no_values k → FieldsCompleted (field name s fs) (l ∷ ls) k
on_line_completed name s fs form read h fits next l rest ls k here e = go (strip_prefix (codes " ") rest) refl e
  where
    formed : (word : Line) (v : Plain) → value_if_printed_as_line form word (read word) ≡ Ok v → form v ≡ word
    formed word v e = by_value (read word) e
      where
        by_value : (o : Option Plain) → value_if_printed_as_line form word o ≡ Ok v → form v ≡ word
        by_value None e = absurd cc
        by_value (Some u) e =
            elim (chosen (bytes_eq (form u) word) _ _ _ e) [
              | inl x ↦ let f = x.1 in let same : u ≡ v = cc in ap form (sym same) ∙ is_name (form u) word x.0
              | inr x ↦ absurd (let f = x.1 in cc)
            ]

    after : (word : Line) → Some word ≡ strip_prefix (codes " ") rest → (x : ResultOrBadLine Plain) → value_if_printed_as_line form word (read word) ≡ x → and_then x (λ v. mapped_or_bad_line_shifted_by 1 (more v) (fields_read fs ls)) ≡ no_values k → FieldsCompleted (field name s fs) (l ∷ ls) k
    after word space (Err j) is e = no_field (field name s fs) (l ∷ ls) k (sym (values_number j k e) ∙ form_zero form word (read word) j is)
    after word space (Ok v) is e =
        let (j, bad, count) = later 1 v (fields_read fs ls) k e in
        line_passed name s fs form h l rest word ls k j v here space (fits word v is) (formed word v is) count (next ls j bad)

    go : (o : Option Line) → o ≡ strip_prefix (codes " ") rest → fields_read_with_value_on_line (λ x. value_if_printed_as_line form x (read x)) (fields_read fs) ls o ≡ no_values k → FieldsCompleted (field name s fs) (l ∷ ls) k
    go None space e = no_field (field name s fs) (l ∷ ls) k (sym (values_number 0 k e))
    go (Some word) space e = after word space (value_if_printed_as_line form word (read word)) refl e

-- a field's value in the block below its name
below_completed : (name : List ℕ) (s : Shape) (fs : Fields) → ((v : Plain) → named_lines s name v ≡ name_line_above_indented_lines name (block_lines s v)) → Completes s → FieldsComplete fs
    → (l rest : Line) (ls : List Line) (k : ℕ) → NamedHere name l rest → fields_read_with_value_below (block_read s) (fields_read fs) (block_and_lines_after ls) rest ≡ no_values k → FieldsCompleted (field name s fs) (l ∷ ls) k
below_completed name s fs h inner next l (c ∷ cs) ls k here e = no_field (field name s fs) (l ∷ ls) k (sym (values_number 0 k e))
below_completed name s fs h inner next l [] ls k here e = go (block_read s (block_and_lines_after ls).0) refl e
  where
    go : (x : ResultOrBadLine Plain) → block_read s (block_and_lines_after ls).0 ≡ x → and_then (mapped_or_bad_line_shifted_by 1 (λ v. v) x) (λ v. mapped_or_bad_line_shifted_by (1 + length (block_and_lines_after ls).0) (more v) (fields_read fs (block_and_lines_after ls).1)) ≡ no_values k → FieldsCompleted (field name s fs) (l ∷ ls) k
    go (Err j) is e = below_ends name s fs h l [] ls k j here refl (sym (values_number (1 + j) k e)) (inner (block_and_lines_after ls).0 j is)
    go (Ok v) is e =
        let (j, bad, count) = later (1 + length (block_and_lines_after ls).0) v (fields_read fs (block_and_lines_after ls).1) k e in
        below_passed name s fs h l [] ls k j v here refl is count (next (block_and_lines_after ls).1 j bad)

number_fits : (l : Line) (v : Plain) → value_if_printed_as_line int_or_null_line l (int_of_line_of_unchecked_form l) ≡ Ok v → Fit number v
unfolding block_read
number_fits l v e = read_fit number (l ∷ []) v e

text_fits : (l : Line) (v : Plain) → value_if_printed_as_line text_or_null_line l (text_of_line_of_unchecked_form l) ≡ Ok v → Fit text v
unfolding block_read
text_fits l v e = read_fit text (l ∷ []) v e

hash_fits : (l : Line) (v : Plain) → value_if_printed_as_line hash_or_null_line l (hash_of_line_of_unchecked_form l) ≡ Ok v → Fit hash v
unfolding block_read
hash_fits l v e = read_fit hash (l ∷ []) v e

named_completed : (name : List ℕ) (s : Shape) (fs : Fields) → Completes s → FieldsComplete fs → (l rest : Line) (ls : List Line) (k : ℕ) → NamedHere name l rest → named_read s (fields_read fs) ls rest ≡ no_values k → FieldsCompleted (field name s fs) (l ∷ ls) k
unfolding named_read named_lines block_read block_lines
named_completed name number fs h next = on_line_completed name number fs int_or_null_line int_of_line_of_unchecked_form (λ v. refl) number_fits next
named_completed name text fs h next = on_line_completed name text fs text_or_null_line text_of_line_of_unchecked_form (λ v. refl) text_fits next
named_completed name hash fs h next = on_line_completed name hash fs hash_or_null_line hash_of_line_of_unchecked_form (λ v. refl) hash_fits next
named_completed name (array s) fs h next = below_completed name (array s) fs (λ v. refl) h next
named_completed name (object which gs) fs h next = below_completed name (object which gs) fs (λ v. refl) h next

field_completed : (name : List ℕ) (s : Shape) (fs : Fields) → Completes s → FieldsComplete fs → FieldsComplete (field name s fs)
unfolding fields_read
field_completed name s fs h next [] k e = absurd cc
field_completed name s fs h next (l ∷ ls) k e = go (strip_prefix (name ++ codes ":") l) refl e
  where
    go : (o : Option Line) → o ≡ strip_prefix (name ++ codes ":") l → fields_read_by_name_match (mapped_or_bad_line_shifted_by 0 (more null) (fields_read fs (l ∷ ls))) (named_read s (fields_read fs) ls) o ≡ no_values k → FieldsCompleted (field name s fs) (l ∷ ls) k
    go None named e =
        let (j, bad, count) = later 0 null (fields_read fs (l ∷ ls)) k e in
        let same : j ≡ k = omega (arith, count) in
        let c = next (l ∷ ls) k (bad ∙ ap no_values same) in
        record { values = prepend_plain_unless_last_null null c.values; fit = null_fit name s fs c.values c.fit; count = c.count; rest = c.rest; lines = null_lines name s fs c.values ∙ c.lines }
    go (Some rest) named e = named_completed name s fs h next l rest ls k (named_here name l rest named) e

no_fields_completed : FieldsComplete no_fields
unfolding fields_read
no_fields_completed [] k e = absurd cc
no_fields_completed (l ∷ ls) k e = no_field no_fields (l ∷ ls) k (sym (values_number 0 k e))

-- ---- objects

object_completed : (which : ℕ) (fs : Fields) → Sample (object which fs) → FieldsComplete fs → Completes (object which fs)
unfolding block_read block_lines
object_completed which fs p h ls k e =
    elim (obj_bad (fields_read fs ls) k e) [
      | inl bad ↦ by_values (h ls k bad)
      | inr nothing ↦ at_first (object which fs) p ls k (sym (value_number 0 k (sym (ap (λ (r : ResultOrBadLine Plains). and_then r object_or_bad_line_if_empty) nothing) ∙ e)))
    ]
  where
    empty_front : (xs ys : List Line) → [] ≡ xs ++ ys → xs ≡ []
    empty_front [] ys e = refl
    empty_front (x ∷ xs) ys e = absurd cc

    by_list : (vs : Plains) → FieldsFit fs vs → k ≤ length ls → (rest : List Line) → fields_lines fs vs ≡ take k ls ++ rest → Completed (object which fs) ls k
    by_list none f count rest lines =
        let nothing : take k ls ≡ [] = empty_front (take k ls) rest (sym (no_lines fs) ∙ lines) in
        record { value = p.value; fit = p.fit; count = count; rest = block_lines (object which fs) p.value; lines = ap (λ (x : List Line). x ++ block_lines (object which fs) p.value) (sym nothing) }
    by_list (more v vs) f count rest lines = record { value = obj (more v vs); fit = object_fit which fs v vs f; count = count; rest = rest; lines = lines }

    by_values : FieldsCompleted fs ls k → Completed (object which fs) ls k
    by_values c = by_list c.values c.fit c.count c.rest c.lines

number_one : HasOneLine number
unfolding block_read
number_one ls = refl

text_one : HasOneLine text
unfolding block_read
text_one ls = refl

hash_one : HasOneLine hash
unfolding block_read
hash_one ls = refl

fields_have : (name : List ℕ) (s : Shape) (fs : Fields) → have_samples (field name s fs) ≡ true → (has_samples s ≡ true) × (have_samples fs ≡ true)
unfolding has_samples
fields_have name s fs h = and_parts (has_samples s) (have_samples fs) h

object_has : (which : ℕ) (fs : Fields) → has_samples (object which fs) ≡ true → have_samples fs ≡ true
unfolding has_samples
object_has which no_fields h = refl
object_has which (field name s fs) h = h

array_has : (s : Shape) → has_samples (array s) ≡ true → has_samples s ≡ true
unfolding has_samples
array_has s h = h

mutual
  pub block_completed : (s : Shape) → has_samples s ≡ true → Completes s
  block_completed number h = line_completed number number_one number_sample
  block_completed text h = line_completed text text_one text_sample
  block_completed hash h = line_completed hash hash_one hash_sample
  block_completed (array s) h = array_completed s (block_completed s (array_has s h))
  block_completed (object which fs) h = object_completed which fs (sample (object which fs) h) (fields_completed fs (object_has which fs h))

  pub fields_completed : (fs : Fields) → have_samples fs ≡ true → FieldsComplete fs
  fields_completed no_fields h = no_fields_completed
  fields_completed (field name s fs) h = field_completed name s fs (block_completed s (fields_have name s fs h).0) (fields_completed fs (fields_have name s fs h).1)
