-- The text of lines without line ends has just these lines.
use Rattle.std.proofs.Common.{◌≡◌, ◌≢◌, ℕ, suc, ◌/◌, ◌%◌, ◌<◌, ◌≤◌, Bool, true, false, cond, eqb, leb, ◌&&◌, List, [], ◌∷◌, ◌++◌, length, Option, Some, None, option_map, refl, sym, ap, ◌∙◌, append_assoc, arith, inl, inr}
use Rattle.std.specs.Prelude.{not, codes, decimal}
use Rattle.std.specs.List.{flat_map, list_all}
use Rattle.std.specs.Str.Parse.{AllDigits}
use Rattle.std.proofs.lemmas.Bool.{leb-true, eqb-true, not-true, and_from, and_parts, ne_eqb}
use Rattle.std.proofs.lemmas.List.Concat.{flat_map-cons}
use Rattle.std.proofs.lemmas.List.Folds.{list_all-append}
use Rattle.std.proofs.lemmas.Fmt.{decimal_is_IsNumeral}
use Rattle.std.proofs.lemmas.Str.Parse.{digit_at}
use Rattle.hex.specs.Hex.{encode_with, encode_lower}
use Rattle.adb_view.specs.Plain.{Plain, null, int, blob, arr, obj, Plains, none, more, Shape, number, text, hash, array, object, Fields, no_fields, field, IsNormal, AreNormal}
use Rattle.adb_view.specs.Values.{entries_in}
use Rattle.adb_dump.specs.Dump.{Line, is_printable, needs_no_quotes, quoted_form_of_byte, bare_or_quoted_text, int_or_null_line, text_or_null_line, hash_or_null_line, indent, lines_with_dash_before_first, entry_lines_or_null_line, array_lines, named_line, name_line_above_indented_lines, field_lines_unless_null, block_lines, named_lines, fields_lines, dump_text_of_lines}
use Rattle.adb_dump.specs.ReadBack.{lines_of_text_if_all_ended, add_char}
use Rattle.adb_dump.proofs.LineBack.{digit_not_end}
use Rattle.adb_dump.proofs.Booleans.{chosen}
use Rattle.adb_dump.proofs.ValueBack.{no_end, no_colon, names_of, is_name, is_named, are_named}

abbrev pub are_lines : List Line → Bool
are_lines ls = list_all no_end ls

-- a line without a line end, and its end
lines_of-line : (l : Line) (rest : List ℕ) (ls : List Line) → no_end l ≡ true → lines_of_text_if_all_ended rest ≡ Some ls → lines_of_text_if_all_ended (l ++ 10 ∷ rest) ≡ Some (l ∷ ls)
lines_of-line [] rest ls h e = rw e refl
lines_of-line (c ∷ cs) rest ls h e =
    let a = and_parts (not (eqb c 10)) (no_end cs) h in
    let t : eqb c 10 ≡ false = not-true (eqb c 10) a.0 in
    rw (t, lines_of-line cs rest ls a.1 e) refl

pub lines_of-text : (ls : List Line) → are_lines ls ≡ true → lines_of_text_if_all_ended (dump_text_of_lines ls) ≡ Some ls
lines_of-text [] h = refl
lines_of-text (l ∷ ls) h =
    let a = and_parts (no_end l) (are_lines ls) h in
    ap lines_of_text_if_all_ended (flat_map-cons (λ (x : Line). x ++ 10 ∷ []) l ls ∙ append_assoc l (10 ∷ []) (dump_text_of_lines ls)) ∙ lines_of-line l (dump_text_of_lines ls) ls a.0 (lines_of-text ls a.1)

-- ---- no line of a dump has a line end

not_end : (c : ℕ) → c ≢ 10 → not (eqb c 10) ≡ true
not_end c ne = let t : eqb c 10 ≡ false = ne_eqb c 10 ne in rw t refl

append_lines : (xs ys : List Line) → are_lines xs ≡ true → are_lines ys ≡ true → are_lines (xs ++ ys) ≡ true
append_lines xs ys a b = list_all-append no_end xs ys ∙ and_from _ _ a b

append_chars : (x y : List ℕ) → no_end x ≡ true → no_end y ≡ true → no_end (x ++ y) ≡ true
append_chars x y a b = list_all-append (λ d. not (eqb d 10)) x y ∙ and_from _ _ a b

indent_lines : (ls : List Line) → are_lines ls ≡ true → are_lines (indent ls) ≡ true
indent_lines [] h = refl
indent_lines (l ∷ ls) h = let a = and_parts (no_end l) (are_lines ls) h in and_from _ _ a.0 (indent_lines ls a.1)

dashed_lines : (ls : List Line) → are_lines ls ≡ true → are_lines (lines_with_dash_before_first ls) ≡ true
dashed_lines [] h = refl
dashed_lines (l ∷ ls) h = let a = and_parts (no_end l) (are_lines ls) h in and_from _ _ a.0 (indent_lines ls a.1)

pub hash_end : (b : List ℕ) → no_end (encode_lower b) ≡ true
unfolding encode_with
hash_end [] = refl
hash_end (c ∷ cs) = and_from _ _ (digit_not_end (c / 16)) (and_from _ _ (digit_not_end (c % 16)) (hash_end cs))

escaped_end : (c : ℕ) → no_end (quoted_form_of_byte c) ≡ true
escaped_end c = go (eqb c 10) (eqb c 92) (eqb c 34) (is_printable c) refl
  where
    go : (b1 b2 b3 b4 : Bool) → eqb c 10 ≡ b1 → no_end (cond b1 (92 ∷ 110 ∷ []) (cond b2 (92 ∷ 92 ∷ []) (cond b3 (92 ∷ 34 ∷ []) (cond b4 (c ∷ []) (codes "\\x" ++ encode_lower (c ∷ [])))))) ≡ true
    go true b2 b3 b4 e = refl
    go false true b3 b4 e = refl
    go false false true b4 e = refl
    go false false false true e = rw e refl
    go false false false false e = append_chars (codes "\\x") (encode_lower (c ∷ [])) refl (hash_end (c ∷ []))

escapes_end : (b : List ℕ) → no_end (flat_map quoted_form_of_byte b) ≡ true
escapes_end [] = refl
escapes_end (c ∷ cs) = ap no_end (flat_map-cons quoted_form_of_byte c cs) ∙ append_chars (quoted_form_of_byte c) (flat_map quoted_form_of_byte cs) (escaped_end c) (escapes_end cs)

printable_end : (b : List ℕ) → list_all is_printable b ≡ true → no_end b ≡ true
printable_end [] h = refl
printable_end (c ∷ cs) h =
    let a = and_parts (is_printable c) (list_all is_printable cs) h in
    let le : 0x20 ≤ c = leb-true _ _ (and_parts (leb 0x20 c) (leb c 0x7e) a.0).0 in
    and_from _ _ (not_end c (λ e. absurd (omega arith))) (printable_end cs a.1)

text_end : (b : List ℕ) → no_end (bare_or_quoted_text b) ≡ true
text_end b = go (needs_no_quotes b) refl
  where
    go : (t : Bool) → needs_no_quotes b ≡ t → no_end (cond t b (34 ∷ (flat_map quoted_form_of_byte b ++ 34 ∷ []))) ≡ true
    go true e = printable_end b (and_parts _ _ (and_parts _ _ (and_parts _ _ (and_parts _ _ e).0).0).0).0
    go false e = append_chars (flat_map quoted_form_of_byte b) (34 ∷ []) (escapes_end b) refl

digits_end : (ds : List ℕ) → AllDigits 10 ds → no_end ds ≡ true
digits_end [] h = refl
digits_end (d ∷ ds) h = let r = digit_at (d ∷ ds) 0 h (first ds) in and_from _ _ (not_end d (λ e. absurd (omega arith))) (digits_end ds h.1)
  where
    first : (ds : List ℕ) → 0 < suc (length ds)
    first ds = omega arith

int_end : (v : Plain) → IsNormal v → no_end (int_or_null_line v) ≡ true
unfolding IsNormal
int_end null n = refl
int_end (int k) n = digits_end (decimal k) (decimal_is_IsNumeral k n).0.1
int_end (blob b) n = refl
int_end (arr vs) n = refl
int_end (obj vs) n = refl

text_line_end : (v : Plain) → no_end (text_or_null_line v) ≡ true
text_line_end null = refl
text_line_end (int k) = refl
text_line_end (blob b) = text_end b
text_line_end (arr vs) = refl
text_line_end (obj vs) = refl

hash_line_end : (v : Plain) → no_end (hash_or_null_line v) ≡ true
hash_line_end null = refl
hash_line_end (int k) = refl
hash_line_end (blob b) = hash_end b
hash_line_end (arr vs) = refl
hash_line_end (obj vs) = refl

or_null_lines : (v : Plain) (ls : List Line) → are_lines ls ≡ true → are_lines (entry_lines_or_null_line v ls) ≡ true
or_null_lines null ls h = refl
or_null_lines (int k) ls h = h
or_null_lines (blob b) ls h = h
or_null_lines (arr vs) ls h = h
or_null_lines (obj vs) ls h = h

absent_lines : (v : Plain) (ls : List Line) → are_lines ls ≡ true → are_lines (field_lines_unless_null v ls) ≡ true
absent_lines null ls h = refl
absent_lines (int k) ls h = h
absent_lines (blob b) ls h = h
absent_lines (arr vs) ls h = h
absent_lines (obj vs) ls h = h

entries_lines : (f : Plain → List Line) → ((v : Plain) → IsNormal v → are_lines (f v) ≡ true) → (vs : Plains) → AreNormal vs → are_lines (array_lines f vs) ≡ true
unfolding IsNormal
entries_lines f h none n = refl
entries_lines f h (more v vs) n = append_lines (lines_with_dash_before_first (entry_lines_or_null_line v (f v))) (array_lines f vs) (dashed_lines (entry_lines_or_null_line v (f v)) (or_null_lines v (f v) (h v n.0))) (entries_lines f h vs n.1)

items_normal : (v : Plain) → IsNormal v → AreNormal (entries_in v)
unfolding IsNormal
items_normal null n = tt
items_normal (int k) n = tt
items_normal (blob b) n = tt
items_normal (arr vs) n = n.1
items_normal (obj vs) n = n.2

one_line : (l : Line) → no_end l ≡ true → are_lines (l ∷ []) ≡ true
one_line l h = and_from _ _ h refl

name_end : (name : List ℕ) → is_name name ≡ true → no_end name ≡ true
name_end [] h = absurd cc
name_end (c ∷ cs) h = (and_parts (no_colon (c ∷ cs)) (no_end (c ∷ cs)) (and_parts (not (eqb c 32)) (no_colon (c ∷ cs) && no_end (c ∷ cs)) h).1).1

on_line_end : (name l : List ℕ) → is_name name ≡ true → no_end l ≡ true → are_lines (named_line name l) ≡ true
on_line_end name l n h = one_line (name ++ (58 ∷ 32 ∷ l)) (append_chars name (58 ∷ 32 ∷ l) (name_end name n) h)

below_end : (name : List ℕ) (ls : List Line) → is_name name ≡ true → are_lines ls ≡ true → are_lines (name_line_above_indented_lines name ls) ≡ true
below_end name ls n h = and_from _ _ (append_chars name (58 ∷ []) (name_end name n) refl) (indent_lines ls h)

named_end : (name : List ℕ) (s : Shape) (v : Plain) → is_name name ≡ true → IsNormal v → are_lines (block_lines s v) ≡ true → are_lines (named_lines s name v) ≡ true
unfolding named_lines
named_end name number v n a h = on_line_end name (int_or_null_line v) n (int_end v a)
named_end name text v n a h = on_line_end name (text_or_null_line v) n (text_line_end v)
named_end name hash v n a h = on_line_end name (hash_or_null_line v) n (hash_line_end v)
named_end name (array s) v n a h = below_end name (array_lines (block_lines s) (entries_in v)) n h
named_end name (object which fs) v n a h = below_end name (fields_lines fs (entries_in v)) n h

field_end : (name : List ℕ) (s : Shape) (fs : Fields) (v : Plain) (vs : Plains) → is_name name ≡ true → AreNormal (more v vs) → ((u : Plain) → IsNormal u → are_lines (block_lines s u) ≡ true) → (AreNormal vs → are_lines (fields_lines fs vs) ≡ true) → are_lines (fields_lines (field name s fs) (more v vs)) ≡ true
unfolding fields_lines IsNormal
field_end name s fs v vs n a f g = append_lines (field_lines_unless_null v (named_lines s name v)) (fields_lines fs vs) (absent_lines v (named_lines s name v) (named_end name s v n a.0 (f v a.0))) (g a.1)

mutual
  unfolding block_lines is_named

  pub block_end : (s : Shape) → is_named s ≡ true → (v : Plain) → IsNormal v → are_lines (block_lines s v) ≡ true
  block_end number n v a = one_line (int_or_null_line v) (int_end v a)
  block_end text n v a = one_line (text_or_null_line v) (text_line_end v)
  block_end hash n v a = one_line (hash_or_null_line v) (hash_line_end v)
  block_end (array s) n v a = entries_lines (block_lines s) (block_end s n) (entries_in v) (items_normal v a)
  block_end (object which fs) n v a = fields_end fs n (entries_in v) (items_normal v a)

  pub fields_end : (fs : Fields) → are_named fs ≡ true → (vs : Plains) → AreNormal vs → are_lines (fields_lines fs vs) ≡ true
  fields_end no_fields n vs a = refl
  fields_end (field name s fs) n none a = refl
  fields_end (field name s fs) n (more v vs) a =
      let names = names_of name s fs n in
      field_end name s fs v vs names.this a (block_end s names.shape) (fields_end fs names.others vs)

-- ---- and lines that were found are the text's

add_some : (c : ℕ) (o : Option (List Line)) (ls : List Line) → add_char c o ≡ Some ls → (l : Line) × (rest : List Line) × (o ≡ Some (l ∷ rest)) × (ls ≡ (c ∷ l) ∷ rest)
add_some c None ls e = absurd cc
add_some c (Some []) ls e = absurd cc
add_some c (Some (l ∷ rest)) ls e = (l, rest, refl, cc)

mapped_some : (o : Option (List Line)) (ls : List Line) → option_map (λ (xs : List Line). [] ∷ xs) o ≡ Some ls → (rest : List Line) × (o ≡ Some rest) × (ls ≡ [] ∷ rest)
mapped_some None ls e = absurd cc
mapped_some (Some rest) ls e = (rest, refl, cc)

pub line_first : (l : Line) (ls : List Line) → dump_text_of_lines (l ∷ ls) ≡ l ++ 10 ∷ dump_text_of_lines ls
line_first l ls = flat_map-cons (λ (x : Line). x ++ codes "\n") l ls ∙ append_assoc l (10 ∷ []) (dump_text_of_lines ls)

pub dump_text_of_lines-lines : (t : List ℕ) (ls : List Line) → lines_of_text_if_all_ended t ≡ Some ls → dump_text_of_lines ls ≡ t
dump_text_of_lines-lines [] ls e = let same : [] ≡ ls = cc in rw (sym same) refl
dump_text_of_lines-lines (c ∷ cs) ls e =
    elim (chosen (eqb c 10) _ _ _ e) [
      | inl x ↦
          let (rest, some, is) = mapped_some (lines_of_text_if_all_ended cs) ls x.1 in
          let end : c ≡ 10 = eqb-true _ _ x.0 in
          rw (is, end) (line_first [] rest ∙ ap (λ (t : List ℕ). 10 ∷ t) (dump_text_of_lines-lines cs rest some))
      | inr x ↦
          let (l, rest, some, is) = add_some c (lines_of_text_if_all_ended cs) ls x.1 in
          rw is (line_first (c ∷ l) rest ∙ ap (λ (t : List ℕ). c ∷ t) (sym (line_first l rest) ∙ dump_text_of_lines-lines cs (l ∷ rest) some))
    ]
