-- The lines of a value are read back, so two values with the same lines are one.
use Rattle.std.proofs.Common.{◌≡◌, ◌≢◌, ℕ, zero, suc, ◌+◌, ◌^◌, ◌<◌, ◌≤◌, Bool, true, false, cond, eqb, ◌&&◌, List, [], ◌∷◌, ◌++◌, length, Some, None, Ok, refl, sym, ap, subst, ◌∙◌, append_assoc, arith, inl, inr, ◌⊎◌, eq-eqb}
use Rattle.std.specs.Prelude.{not, ◌||◌, codes, decimal, bytes_eq}
use Rattle.std.specs.List.{list_all}
use Rattle.std.proofs.lemmas.Bool.{eqb-true, not-true, and_parts, ne_eqb}
use Rattle.std.proofs.lemmas.List.{length-append}
use Rattle.adb_view.specs.Plain.{Plain, null, int, blob, arr, obj, Plains, none, more, without_last_nulls, Shape, number, text, hash, array, object, Fields, no_fields, field, IsNormal, AreNormal}
use Rattle.adb_view.specs.Shaped.{Each, HasShape, HaveShapes}
use Rattle.adb_view.proofs.Normal.{trimmed-more}
use Rattle.adb_dump.specs.Dump.{Line, int_or_null_line, text_or_null_line, hash_or_null_line, bare_or_quoted_text, indent, lines_with_dash_before_first, entry_lines_or_null_line, array_lines, block_lines, named_lines, fields_lines}
use Rattle.base_core.specs.Lists.{and_then}
use Rattle.base_core.proofs.AtName.{own_name, other_name as differs}
use Rattle.adb_dump.specs.ReadBack.{ResultOrBadLine, mapped_or_bad_line_shifted_by, strip_prefix, block_and_lines_after, entry_read, entries_read_with_recursion_bound, array_or_bad_line_if_empty, object_or_bad_line_if_empty, fields_read_with_value_below, block_read, named_read, fields_read}
use Rattle.adb_dump.specs.Values.{IsOfBytes, AreOfBytes}
use Rattle.adb_dump.proofs.LineBack.{AreBytes, int_back, text_back, hash_back, int_not_null, text_not_null, hash_not_null}

-- ---- names by which a reader tells fields apart: not empty, no space in front, no colon and no line end

abbrev pub is_name : List ℕ → Bool
is_name [] = false
is_name (c ∷ cs) = not (eqb c 0x20) && (list_all (λ d. not (eqb d 58)) (c ∷ cs) && list_all (λ d. not (eqb d 10)) (c ∷ cs))

-- no field has this name
abbrev pub is_new : List ℕ → Fields → Bool
is_new name no_fields = true
is_new name (field other s fs) = not (bytes_eq name other) && is_new name fs

unfoldable mutual
  pub is_named : Shape → Bool
  is_named number = true
  is_named text = true
  is_named hash = true
  is_named (array s) = is_named s
  is_named (object which fs) = are_named fs

  pub are_named : Fields → Bool
  are_named no_fields = true
  are_named (field name s fs) = is_name name && (is_new name fs && (is_named s && are_named fs))

-- ---- prefixes

pub strip_prefix-append : (p l : List ℕ) → strip_prefix p (p ++ l) ≡ Some l
strip_prefix-append [] l = refl
strip_prefix-append (c ∷ cs) l = let t : eqb c c ≡ true = eq-eqb c c refl in rw t (strip_prefix-append cs l)

-- ---- blocks

-- no line in front that is indented
abbrev pub IsFresh : List Line → Type 0
IsFresh [] = Unit {0}
IsFresh (l ∷ ls) = strip_prefix (32 ∷ 32 ∷ []) l ≡ None

block_and_lines_after-fresh : (ys : List Line) → IsFresh ys → block_and_lines_after ys ≡ ([], ys)
block_and_lines_after-fresh [] h = refl
block_and_lines_after-fresh (l ∷ ls) h = rw h refl

block_and_lines_after-indent : (xs ys : List Line) → IsFresh ys → block_and_lines_after (indent xs ++ ys) ≡ (xs, ys)
block_and_lines_after-indent [] ys h = block_and_lines_after-fresh ys h
block_and_lines_after-indent (x ∷ xs) ys h = rw (block_and_lines_after-indent xs ys h) refl

-- ---- entries

-- an entry's lines, of which there is one at least, are read as the entry
pub record EntryBack (f : Plain → List Line) (r : List Line → ResultOrBadLine Plain) (v : Plain) : Type 0 where
  pub first : Line
  pub others : List Line
  pub lines : entry_lines_or_null_line v (f v) ≡ first ∷ others
  pub back : entry_read r first others ≡ Ok v

entries-fresh : (f : Plain → List Line) (r : List Line → ResultOrBadLine Plain) (vs : Plains) → Each (EntryBack f r) vs → IsFresh (array_lines f vs)
entries-fresh f r none h = tt
entries-fresh f r (more v vs) h = rw h.0.lines refl

entries_back : (f : Plain → List Line) (r : List Line → ResultOrBadLine Plain) (n : ℕ) (vs : Plains) → Each (EntryBack f r) vs → length (array_lines f vs) ≤ n → entries_read_with_recursion_bound r n (array_lines f vs) ≡ Ok vs
entries_back f r zero none h le = refl
entries_back f r (suc n) none h le = refl
entries_back f r zero (more v vs) h le =
    let e = h.0 in
    let lines : array_lines f (more v vs) ≡ (45 ∷ 32 ∷ e.first) ∷ (indent e.others ++ array_lines f vs) = ap (λ (ls : List Line). lines_with_dash_before_first ls ++ array_lines f vs) e.lines in
    absurd (omega (arith, ap length lines))
entries_back f r (suc n) (more v vs) h le =
    let e = h.0 in
    let lines : array_lines f (more v vs) ≡ (45 ∷ 32 ∷ e.first) ∷ (indent e.others ++ array_lines f vs) = ap (λ (ls : List Line). lines_with_dash_before_first ls ++ array_lines f vs) e.lines in
    let split : block_and_lines_after (indent e.others ++ array_lines f vs) ≡ (e.others, array_lines f vs) = block_and_lines_after-indent e.others (array_lines f vs) (entries-fresh f r vs h.1) in
    let more_back : entries_read_with_recursion_bound r n (array_lines f vs) ≡ Ok vs = entries_back f r n vs h.1 (omega (arith, ap length lines, length-append (indent e.others) (array_lines f vs))) in
    ap (entries_read_with_recursion_bound r (suc n)) lines ∙ rw (split, e.back, more_back) refl

-- ---- names

abbrev has_colon : List ℕ → Bool
has_colon [] = false
has_colon (c ∷ cs) = eqb c 58 || has_colon cs

has_colon-behind : (name rest : List ℕ) → has_colon (name ++ 58 ∷ rest) ≡ true
has_colon-behind [] rest = refl
has_colon-behind (c ∷ cs) rest = rw (has_colon-behind cs rest) (or_true (eqb c 58))
  where
    or_true : (b : Bool) → (b || true) ≡ true
    or_true true = refl
    or_true false = refl

-- a field's line is not `null`
colon_not_null : (name rest : List ℕ) → bytes_eq (name ++ 58 ∷ rest) (codes "null") ≡ false
colon_not_null name rest = differs _ _ (no (name ++ 58 ∷ rest) (has_colon-behind name rest))
  where
    no : (l : List ℕ) → has_colon l ≡ true → l ≢ codes "null"
    no l h e = let none : has_colon (codes "null") ≡ false = refl in let same = ap has_colon e in cc

abbrev pub no_colon : List ℕ → Bool
no_colon cs = list_all (λ d. not (eqb d 58)) cs

abbrev pub no_end : List ℕ → Bool
no_end cs = list_all (λ d. not (eqb d 10)) cs

-- another field's name does not stand there
other_name : (a b rest : List ℕ) → no_colon a ≡ true → no_colon b ≡ true → a ≢ b → strip_prefix (a ++ 58 ∷ []) (b ++ 58 ∷ rest) ≡ None
other_name [] [] rest h k ne = absurd (ne refl)
other_name [] (d ∷ ds) rest h k ne =
    let t : eqb 58 d ≡ false = ne_eqb 58 d (λ e. let u : eqb d 58 ≡ true = eq-eqb d 58 (sym e) in let v : eqb d 58 ≡ false = not-true (eqb d 58) (and_parts (not (eqb d 58)) (no_colon ds) k).0 in cc) in
    rw t refl
other_name (c ∷ cs) [] rest h k ne = let t : eqb c 58 ≡ false = not-true (eqb c 58) (and_parts (not (eqb c 58)) (no_colon cs) h).0 in rw t refl
other_name (c ∷ cs) (d ∷ ds) rest h k ne = go (eqb c d) refl (λ f. other_name cs ds rest (and_parts (not (eqb c 58)) (no_colon cs) h).1 (and_parts (not (eqb d 58)) (no_colon ds) k).1 f)
  where
    go : (t : Bool) → eqb c d ≡ t → (cs ≢ ds → strip_prefix (cs ++ 58 ∷ []) (ds ++ 58 ∷ rest) ≡ None) → cond t (strip_prefix (cs ++ 58 ∷ []) (ds ++ 58 ∷ rest)) None ≡ None
    go true e more_differ = let same : c ≡ d = eqb-true _ _ e in more_differ (λ f. ne cc)
    go false e more_differ = refl

abbrev IsAmong : List ℕ → Fields → Type 0
IsAmong name no_fields = ⊥
IsAmong name (field other s fs) = (name ≡ other) ⊎ IsAmong name fs

-- the first line, if there is one, begins with one of the fields' names
record Named (fs : Fields) (l : Line) : Type 0 where
  name : List ℕ
  rest : List ℕ
  is : l ≡ name ++ 58 ∷ rest
  among : IsAmong name fs

abbrev FirstNamed : Fields → List Line → Type 0
FirstNamed fs [] = Unit {0}
FirstNamed fs (l ∷ ls) = Named fs l

FirstNamed-more : (name : List ℕ) (s : Shape) (fs : Fields) (ls : List Line) → FirstNamed fs ls → FirstNamed (field name s fs) ls
FirstNamed-more name s fs [] h = tt
FirstNamed-more name s fs (l ∷ ls) h = record { name = h.name; rest = h.rest; is = h.is; among = inr h.among }

named_first : (s : Shape) (name : List ℕ) (v : Plain) (fs : Fields) (more_lines : List Line) → FirstNamed (field name s fs) (named_lines s name v ++ more_lines)
unfolding named_lines
named_first number name v fs ls = record { name = name; rest = 32 ∷ int_or_null_line v; is = refl; among = inl refl }
named_first text name v fs ls = record { name = name; rest = 32 ∷ text_or_null_line v; is = refl; among = inl refl }
named_first hash name v fs ls = record { name = name; rest = 32 ∷ hash_or_null_line v; is = refl; among = inl refl }
named_first (array s) name v fs ls = record { name = name; rest = []; is = refl; among = inl refl }
named_first (object which gs) name v fs ls = record { name = name; rest = []; is = refl; among = inl refl }

fields_first : (fs : Fields) (vs : Plains) → FirstNamed fs (fields_lines fs vs)
unfolding fields_lines
fields_first no_fields vs = tt
fields_first (field name s fs) none = tt
fields_first (field name s fs) (more null vs) = FirstNamed-more name s fs (fields_lines fs vs) (fields_first fs vs)
fields_first (field name s fs) (more (int n) vs) = named_first s name (int n) fs (fields_lines fs vs)
fields_first (field name s fs) (more (blob b) vs) = named_first s name (blob b) fs (fields_lines fs vs)
fields_first (field name s fs) (more (arr us) vs) = named_first s name (arr us) fs (fields_lines fs vs)
fields_first (field name s fs) (more (obj us) vs) = named_first s name (obj us) fs (fields_lines fs vs)

-- what the names of a table are
pub record Names (name : List ℕ) (s : Shape) (fs : Fields) : Type 0 where
  pub this : is_name name ≡ true
  pub new : is_new name fs ≡ true
  pub shape : is_named s ≡ true
  pub others : are_named fs ≡ true

pub names_of : (name : List ℕ) (s : Shape) (fs : Fields) → are_named (field name s fs) ≡ true → Names name s fs
unfolding are_named
names_of name s fs h =
    let a = and_parts _ _ h in
    let b = and_parts _ _ a.1 in
    let c = and_parts _ _ b.1 in
    record { this = a.0; new = b.0; shape = c.0; others = c.1 }

among_is_name : (name : List ℕ) (fs : Fields) → are_named fs ≡ true → IsAmong name fs → is_name name ≡ true
among_is_name name no_fields h i = absurd i
among_is_name name (field other s fs) h (inl e) = rw e (names_of other s fs h).this
among_is_name name (field other s fs) h (inr i) = among_is_name name fs (names_of other s fs h).others i

among_is_other : (name other : List ℕ) (fs : Fields) → is_new name fs ≡ true → IsAmong other fs → name ≢ other
among_is_other name other no_fields h i e = i
among_is_other name other (field x s fs) h (inl j) e =
    let k : bytes_eq name x ≡ false = not-true (bytes_eq name x) (and_parts (not (bytes_eq name x)) (is_new name fs) h).0 in
    let same : bytes_eq name x ≡ true = subst (λ (y : List ℕ). bytes_eq name y ≡ true) (e ∙ j) (own_name name) in
    cc
among_is_other name other (field x s fs) h (inr i) e = among_is_other name other fs (and_parts (not (bytes_eq name x)) (is_new name fs) h).1 i e

name_no_colon : (name : List ℕ) → is_name name ≡ true → no_colon name ≡ true
name_no_colon [] h = absurd cc
name_no_colon (c ∷ cs) h = (and_parts (no_colon (c ∷ cs)) (no_end (c ∷ cs)) (and_parts (not (eqb c 32)) (no_colon (c ∷ cs) && no_end (c ∷ cs)) h).1).0

name_not_indented : (name rest : List ℕ) → is_name name ≡ true → strip_prefix (32 ∷ 32 ∷ []) (name ++ 58 ∷ rest) ≡ None
name_not_indented [] rest h = absurd cc
name_not_indented (c ∷ cs) rest h =
    let t : eqb 32 c ≡ false = ne_eqb 32 c (λ e. let u : eqb c 32 ≡ true = eq-eqb c 32 (sym e) in let v : eqb c 32 ≡ false = not-true (eqb c 32) (and_parts (not (eqb c 32)) (no_colon (c ∷ cs) && no_end (c ∷ cs)) h).0 in cc) in
    rw t refl

fields_fresh : (fs : Fields) (ls : List Line) → are_named fs ≡ true → FirstNamed fs ls → IsFresh ls
fields_fresh fs [] h f = tt
fields_fresh fs (l ∷ ls) h f = rw f.is (name_not_indented f.name f.rest (among_is_name f.name fs h f.among))

-- ---- a value's lines

pub record BlockBack (s : Shape) (v : Plain) : Type 0 where
  pub first : Line
  pub others : List Line
  pub lines : block_lines s v ≡ first ∷ others
  pub not_null : bytes_eq first (codes "null") ≡ false
  pub back : block_read s (block_lines s v) ≡ Ok v

entry_from : (s : Shape) (v : Plain) → (v ≢ null → BlockBack s v) → EntryBack (block_lines s) (block_read s) v
entry_from s null h = record { first = codes "null"; others = []; lines = refl; back = refl }
entry_from s (int n) h = let b = h (λ e. cc) in record { first = b.first; others = b.others; lines = b.lines; back = rw b.not_null (ap (block_read s) (sym b.lines) ∙ b.back) }
entry_from s (blob x) h = let b = h (λ e. cc) in record { first = b.first; others = b.others; lines = b.lines; back = rw b.not_null (ap (block_read s) (sym b.lines) ∙ b.back) }
entry_from s (arr us) h = let b = h (λ e. cc) in record { first = b.first; others = b.others; lines = b.lines; back = rw b.not_null (ap (block_read s) (sym b.lines) ∙ b.back) }
entry_from s (obj us) h = let b = h (λ e. cc) in record { first = b.first; others = b.others; lines = b.lines; back = rw b.not_null (ap (block_read s) (sym b.lines) ∙ b.back) }

-- a value's lines, named, and the lines of the other fields after them
record NamedBack (s : Shape) (name : List ℕ) (v : Plain) (g : List Line → ResultOrBadLine Plains) (ls : List Line) : Type 0 where
  first : Line
  after : List Line
  rest : Line
  lines : named_lines s name v ++ ls ≡ first ∷ after
  is : first ≡ name ++ 58 ∷ rest
  back : (vs : Plains) → g ls ≡ Ok vs → named_read s g after rest ≡ Ok (more v vs)

named_back : (s : Shape) (name : List ℕ) (v : Plain) (g : List Line → ResultOrBadLine Plains) (ls : List Line) → BlockBack s v → IsFresh ls → NamedBack s name v g ls
unfolding named_lines named_read
named_back number name v g ls b fresh = record {
  first = name ++ (58 ∷ 32 ∷ int_or_null_line v);
  after = ls;
  rest = 32 ∷ int_or_null_line v;
  lines = refl;
  is = refl;
  back = λ vs h. ap (λ (r : ResultOrBadLine Plain). and_then r (λ u. mapped_or_bad_line_shifted_by 1 (more u) (g ls))) b.back ∙ ap (mapped_or_bad_line_shifted_by 1 (more v)) h;
}
named_back text name v g ls b fresh = record {
  first = name ++ (58 ∷ 32 ∷ text_or_null_line v);
  after = ls;
  rest = 32 ∷ text_or_null_line v;
  lines = refl;
  is = refl;
  back = λ vs h. ap (λ (r : ResultOrBadLine Plain). and_then r (λ u. mapped_or_bad_line_shifted_by 1 (more u) (g ls))) b.back ∙ ap (mapped_or_bad_line_shifted_by 1 (more v)) h;
}
named_back hash name v g ls b fresh = record {
  first = name ++ (58 ∷ 32 ∷ hash_or_null_line v);
  after = ls;
  rest = 32 ∷ hash_or_null_line v;
  lines = refl;
  is = refl;
  back = λ vs h. ap (λ (r : ResultOrBadLine Plain). and_then r (λ u. mapped_or_bad_line_shifted_by 1 (more u) (g ls))) b.back ∙ ap (mapped_or_bad_line_shifted_by 1 (more v)) h;
}
named_back (array s) name v g ls b fresh =
    let block = block_lines (array s) v in
    let split = block_and_lines_after-indent block ls fresh in
    record {
      first = name ++ 58 ∷ [];
      after = indent block ++ ls;
      rest = [];
      lines = refl;
      is = refl;
      back = λ vs h. ap (λ r. fields_read_with_value_below (block_read (array s)) g r []) split ∙ ap (λ (r : ResultOrBadLine Plain). and_then (mapped_or_bad_line_shifted_by 1 (λ u. u) r) (λ u. mapped_or_bad_line_shifted_by (1 + length block) (more u) (g ls))) b.back ∙ ap (mapped_or_bad_line_shifted_by (1 + length block) (more v)) h;
    }
named_back (object which fs) name v g ls b fresh =
    let block = block_lines (object which fs) v in
    let split = block_and_lines_after-indent block ls fresh in
    record {
      first = name ++ 58 ∷ [];
      after = indent block ++ ls;
      rest = [];
      lines = refl;
      is = refl;
      back = λ vs h. ap (λ r. fields_read_with_value_below (block_read (object which fs)) g r []) split ∙ ap (λ (r : ResultOrBadLine Plain). and_then (mapped_or_bad_line_shifted_by 1 (λ u. u) r) (λ u. mapped_or_bad_line_shifted_by (1 + length block) (more u) (g ls))) b.back ∙ ap (mapped_or_bad_line_shifted_by (1 + length block) (more v)) h;
    }

-- one field more
absent_back : (name : List ℕ) (s : Shape) (fs : Fields) (l : Line) (ls : List Line) (vs : Plains) → Names name s fs → Named fs l → fields_read fs (l ∷ ls) ≡ Ok vs → fields_read (field name s fs) (l ∷ ls) ≡ Ok (more null vs)
unfolding fields_read
absent_back name s fs l ls vs n f h =
    let other : strip_prefix (name ++ 58 ∷ []) l ≡ None =
    rw f.is (other_name name f.name f.rest (name_no_colon name n.this) (name_no_colon f.name (among_is_name f.name fs n.others f.among)) (among_is_other name f.name fs n.new f.among)) in
    rw (other, h) refl

present_back : (name : List ℕ) (s : Shape) (fs : Fields) (v : Plain) (vs : Plains) → Names name s fs → NamedBack s name v (fields_read fs) (fields_lines fs vs) → fields_read fs (fields_lines fs vs) ≡ Ok vs
    → fields_read (field name s fs) (named_lines s name v ++ fields_lines fs vs) ≡ Ok (more v vs)
unfolding fields_read
present_back name s fs v vs n b h =
    let this : strip_prefix (name ++ 58 ∷ []) b.first ≡ Some b.rest = ap (strip_prefix (name ++ 58 ∷ [])) (b.is ∙ sym (append_assoc name (58 ∷ []) b.rest)) ∙ strip_prefix-append (name ++ 58 ∷ []) b.rest in
    ap (fields_read (field name s fs)) b.lines ∙ rw this (b.back vs h)

-- ---- the lines of each kind of value

number_back : (n : ℕ) → n < 2 ^ 64 → BlockBack number (int n)
unfolding block_lines block_read
number_back n lt = record { first = decimal n; others = []; lines = refl; not_null = int_not_null n lt; back = int_back n lt }

text_block_back : (b : List ℕ) → AreBytes b → b ≢ [] → BlockBack text (blob b)
unfolding block_lines block_read
text_block_back b fits ne = record { first = bare_or_quoted_text b; others = []; lines = refl; not_null = text_not_null b; back = text_back b fits ne }

hash_block_back : (b : List ℕ) → AreBytes b → b ≢ [] → BlockBack hash (blob b)
unfolding block_lines block_read
hash_block_back b fits ne = record { first = hash_or_null_line (blob b); others = []; lines = refl; not_null = hash_not_null b ne; back = hash_back b fits ne }

array_back : (s : Shape) (vs : Plains) → vs ≢ none → Each (EntryBack (block_lines s) (block_read s)) vs → BlockBack (array s) (arr vs)
unfolding block_lines block_read
array_back s none ne h = absurd (ne refl)
array_back s (more v vs) ne h =
    let e = h.0 in
    record {
      first = 45 ∷ 32 ∷ e.first;
      others = indent e.others ++ array_lines (block_lines s) vs;
      lines = ap (λ (ls : List Line). lines_with_dash_before_first ls ++ array_lines (block_lines s) vs) e.lines;
      not_null = refl;
      back = ap (λ (r : ResultOrBadLine Plains). and_then r array_or_bad_line_if_empty) (entries_back (block_lines s) (block_read s) (length (array_lines (block_lines s) (more v vs))) (more v vs) h (omega arith));
    }

-- an object has a line
has_line : (fs : Fields) (vs : Plains) → without_last_nulls vs ≡ vs → vs ≢ none → HaveShapes fs vs → fields_lines fs vs ≢ []
unfolding fields_lines named_lines HasShape
has_line no_fields none t ne h e = ne refl
has_line no_fields (more v vs) t ne h e = h
has_line (field name s fs) none t ne h e = ne refl
has_line (field name s fs) (more null vs) t ne h e =
    let m = trimmed-more null vs t in
    has_line fs vs m.0 (λ z. m.1 z refl) h.1 e
has_line (field name number fs) (more (int n) vs) t ne h e = cc
has_line (field name number fs) (more (blob b) vs) t ne h e = h.0
has_line (field name number fs) (more (arr us) vs) t ne h e = h.0
has_line (field name number fs) (more (obj us) vs) t ne h e = h.0
has_line (field name text fs) (more (int n) vs) t ne h e = h.0
has_line (field name text fs) (more (blob b) vs) t ne h e = cc
has_line (field name text fs) (more (arr us) vs) t ne h e = h.0
has_line (field name text fs) (more (obj us) vs) t ne h e = h.0
has_line (field name hash fs) (more (int n) vs) t ne h e = h.0
has_line (field name hash fs) (more (blob b) vs) t ne h e = cc
has_line (field name hash fs) (more (arr us) vs) t ne h e = h.0
has_line (field name hash fs) (more (obj us) vs) t ne h e = h.0
has_line (field name (array s) fs) (more (int n) vs) t ne h e = h.0
has_line (field name (array s) fs) (more (blob b) vs) t ne h e = h.0
has_line (field name (array s) fs) (more (arr us) vs) t ne h e = cc
has_line (field name (array s) fs) (more (obj us) vs) t ne h e = h.0
has_line (field name (object which gs) fs) (more (int n) vs) t ne h e = h.0
has_line (field name (object which gs) fs) (more (blob b) vs) t ne h e = h.0
has_line (field name (object which gs) fs) (more (arr us) vs) t ne h e = h.0
has_line (field name (object which gs) fs) (more (obj us) vs) t ne h e = cc

object_or_bad_line_if_empty-is : (vs : Plains) → vs ≢ none → object_or_bad_line_if_empty vs ≡ Ok (obj vs)
object_or_bad_line_if_empty-is none ne = absurd (ne refl)
object_or_bad_line_if_empty-is (more v vs) ne = refl

object_back : (which : ℕ) (fs : Fields) (vs : Plains) → vs ≢ none → fields_lines fs vs ≢ [] → fields_read fs (fields_lines fs vs) ≡ Ok vs → BlockBack (object which fs) (obj vs)
unfolding block_lines block_read
object_back which fs vs ne some h = go (fields_lines fs vs) refl (fields_first fs vs)
  where
    go : (ls : List Line) → fields_lines fs vs ≡ ls → FirstNamed fs ls → BlockBack (object which fs) (obj vs)
    go [] e f = absurd (some e)
    go (l ∷ ls) e f = record { first = l; others = ls; lines = e; not_null = rw f.is (colon_not_null f.name f.rest); back = ap (λ (r : ResultOrBadLine Plains). and_then r object_or_bad_line_if_empty) h ∙ object_or_bad_line_if_empty-is vs ne }

-- a field, whether it is Null or not
one_more : (name : List ℕ) (s : Shape) (fs : Fields) (v : Plain) (vs : Plains) → Names name s fs → (without_last_nulls vs ≡ vs) × ((vs ≡ none) → v ≢ null) → (vs ≢ none → HaveShapes fs vs → fields_lines fs vs ≢ []) → HaveShapes fs vs
    → (v ≢ null → IsNormal v → HasShape s v → IsOfBytes v → BlockBack s v) → IsNormal v → HasShape s v → IsOfBytes v → fields_read fs (fields_lines fs vs) ≡ Ok vs → fields_read (field name s fs) (fields_lines (field name s fs) (more v vs)) ≡ Ok (more v vs)
unfolding fields_lines
one_more name s fs null vs n m line h f a sh b others = go (fields_lines fs vs) refl (fields_first fs vs)
  where
    go : (ls : List Line) → fields_lines fs vs ≡ ls → FirstNamed fs ls → fields_read (field name s fs) (fields_lines fs vs) ≡ Ok (more null vs)
    go [] e first = absurd (line (λ z. m.1 z refl) h e)
    go (l ∷ ls) e first = ap (fields_read (field name s fs)) e ∙ absent_back name s fs l ls vs n first (ap (fields_read fs) (sym e) ∙ others)
one_more name s fs (int k) vs n m line h f a sh b others =
    present_back name s fs (int k) vs n (named_back s name (int k) (fields_read fs) (fields_lines fs vs) (f (λ e. cc) a sh b) (fields_fresh fs (fields_lines fs vs) n.others (fields_first fs vs))) others
one_more name s fs (blob x) vs n m line h f a sh b others =
    present_back name s fs (blob x) vs n (named_back s name (blob x) (fields_read fs) (fields_lines fs vs) (f (λ e. cc) a sh b) (fields_fresh fs (fields_lines fs vs) n.others (fields_first fs vs))) others
one_more name s fs (arr us) vs n m line h f a sh b others =
    present_back name s fs (arr us) vs n (named_back s name (arr us) (fields_read fs) (fields_lines fs vs) (f (λ e. cc) a sh b) (fields_fresh fs (fields_lines fs vs) n.others (fields_first fs vs))) others
one_more name s fs (obj us) vs n m line h f a sh b others =
    present_back name s fs (obj us) vs n (named_back s name (obj us) (fields_read fs) (fields_lines fs vs) (f (λ e. cc) a sh b) (fields_fresh fs (fields_lines fs vs) n.others (fields_first fs vs))) others

each_back : (s : Shape) → is_named s ≡ true → ((v : Plain) → v ≢ null → IsNormal v → HasShape s v → IsOfBytes v → BlockBack s v) → (vs : Plains) → AreNormal vs → Each (HasShape s) vs → AreOfBytes vs → Each (EntryBack (block_lines s) (block_read s)) vs
unfolding IsNormal IsOfBytes
each_back s n f none a h b = tt
each_back s n f (more v vs) a h b = (entry_from s v (λ ne. f v ne a.0 h.0 b.0), each_back s n f vs a.1 h.1 b.1)

mutual
  unfolding IsNormal HasShape IsOfBytes is_named fields_lines fields_read

  pub block_back : (s : Shape) → is_named s ≡ true → (v : Plain) → v ≢ null → IsNormal v → HasShape s v → IsOfBytes v → BlockBack s v
  block_back number n null ne a h b = absurd (ne refl)
  block_back number n (int k) ne a h b = number_back k a
  block_back number n (blob x) ne a h b = absurd h
  block_back number n (arr us) ne a h b = absurd h
  block_back number n (obj us) ne a h b = absurd h
  block_back text n null ne a h b = absurd (ne refl)
  block_back text n (int k) ne a h b = absurd h
  block_back text n (blob x) ne a h b = text_block_back x b a
  block_back text n (arr us) ne a h b = absurd h
  block_back text n (obj us) ne a h b = absurd h
  block_back hash n null ne a h b = absurd (ne refl)
  block_back hash n (int k) ne a h b = absurd h
  block_back hash n (blob x) ne a h b = hash_block_back x b a
  block_back hash n (arr us) ne a h b = absurd h
  block_back hash n (obj us) ne a h b = absurd h
  block_back (array s) n null ne a h b = absurd (ne refl)
  block_back (array s) n (int k) ne a h b = absurd h
  block_back (array s) n (blob x) ne a h b = absurd h
  block_back (array s) n (arr us) ne a h b = array_back s us a.0 (each_back s n (block_back s n) us a.1 h b)
  block_back (array s) n (obj us) ne a h b = absurd h
  block_back (object which fs) n null ne a h b = absurd (ne refl)
  block_back (object which fs) n (int k) ne a h b = absurd h
  block_back (object which fs) n (blob x) ne a h b = absurd h
  block_back (object which fs) n (arr us) ne a h b = absurd h
  block_back (object which fs) n (obj us) ne a h b = object_back which fs us a.0 (has_line fs us a.1 a.0 h) (fields_back fs n us a.1 a.2 h b)

  pub fields_back : (fs : Fields) → are_named fs ≡ true → (vs : Plains) → without_last_nulls vs ≡ vs → AreNormal vs → HaveShapes fs vs → AreOfBytes vs → fields_read fs (fields_lines fs vs) ≡ Ok vs
  fields_back no_fields n none t a h b = refl
  fields_back no_fields n (more v vs) t a h b = absurd h
  fields_back (field name s fs) n none t a h b = refl
  fields_back (field name s fs) n (more v vs) t a h b =
      let m = trimmed-more v vs t in
      let names = names_of name s fs n in
      one_more name s fs v vs names m (has_line fs vs m.0) h.1 (block_back s names.shape v) a.0 h.0 b.0 (fields_back fs names.others vs m.0 a.1 h.1 b.1)
