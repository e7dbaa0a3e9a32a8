-- The lines of a text, and the text of lines.
use Rattle.std.proofs.Common.{◌≡◌, ◌≢◌, ℕ, ◌+◌, Bool, true, false, cond, eqb, List, [], ◌∷◌, ◌++◌, length, Option, Some, None, Result, Ok, Err, refl, sym, ap, subst, ◌∙◌, arith, inl, inr}
use Rattle.std.specs.Prelude.{option_map, bytes_eq, IsSome, find}
use Rattle.std.specs.List.{flat_map}
use Rattle.std.proofs.lemmas.Bool.{eqb-true}
use Rattle.std.proofs.lemmas.List.{append-nil}
use Rattle.hex.specs.Hex.{encode_with}
use Rattle.adb_view.specs.Plain.{Plain, null}
use Rattle.adb_view.specs.declared.tables.Which.{Which}
use Rattle.adb_view.specs.declared.tables.Which.TheVariants.{Dep, Acl, PkgInfo, File, Dir, Scripts, Package, Index, Idb, Intent}
use Rattle.adb_dump.specs.adb_schema.Soundness.{header_schema_if_root_table}
use Rattle.base_core.specs.Lists.{and_then}
use Rattle.base_core.proofs.AtName.{is_name}
use Rattle.adb_dump.specs.Dump.{Line, dump_lines, dump_text, schema_line_or_empty_line, dump_text_of_lines, object_lines_by_table}
use Rattle.adb_dump.specs.ReadBack.{ResultOrBadLine, add_char, lines_of_text_if_all_ended, value_of_lines_below_schema_line}
use Rattle.adb_dump.specs.Values.{IsOfBytes, IsNormalValueOfTable}
use Rattle.adb_dump.proofs.Booleans.{chosen}
use Rattle.adb_dump.proofs.ValueLaws.{only_values, read_back, text_split}
use Rattle.adb_dump.proofs.TextLines.{line_first}
use Rattle.adb_view.specs.Schema.{shape_of}
use Rattle.adb_view.specs.declared.tables.Kind.TheVariants.{Obj}
use Rattle.gen_core.specs.Dumps.{IsNormalRootValueOfTable}
use Rattle.gen_core.proofs.ReadBytes.{block_bytes}
use Rattle.gen_core.specs.Generated.{DumpedRoot, TextLines, dumped_root, root_of_lines, root_of_lines_below_schema_line, dumped_root_of_value_read, root_tables, table_of_line, whole_lines_and_rest, unless_unfinished_line, lines_with_byte_in_front, lines_with_nonend_byte_in_front}

-- ---- lines and texts

-- a text has its lines, and after them the rest
pub text_of_lines : (t : List ℕ) → dump_text_of_lines (whole_lines_and_rest t).0 ++ (whole_lines_and_rest t).1 ≡ t
text_of_lines [] = refl
text_of_lines (c ∷ cs) = go (eqb c 10) refl (whole_lines_and_rest cs).0 (whole_lines_and_rest cs).1 (text_of_lines cs)
  where
    first : (ls : List Line) (rest : List ℕ) → dump_text_of_lines ls ++ rest ≡ cs → dump_text_of_lines (lines_with_nonend_byte_in_front c ls rest).0 ++ (lines_with_nonend_byte_in_front c ls rest).1 ≡ c ∷ cs
    first [] rest h = ap (λ (x : List ℕ). c ∷ x) h
    first (l ∷ ls) rest h =
        ap (λ (x : List ℕ). x ++ rest) (line_first (c ∷ l) ls)
        ∙ ap (λ (x : List ℕ). c ∷ x) (sym (ap (λ (x : List ℕ). x ++ rest) (line_first l ls)) ∙ h)

    go : (b : Bool) → eqb c 10 ≡ b → (ls : List Line) (rest : List ℕ) → dump_text_of_lines ls ++ rest ≡ cs → dump_text_of_lines (cond {A = TextLines} b ([] ∷ ls, rest) (lines_with_nonend_byte_in_front c ls rest)).0 ++ (cond {A = TextLines} b ([] ∷ ls, rest) (lines_with_nonend_byte_in_front c ls rest)).1 ≡ c ∷ cs
    go true e ls rest h =
        let end : c ≡ 10 = eqb-true c 10 e in
        ap (λ (x : List ℕ). x ++ rest) (line_first [] ls) ∙ ap (λ (x : List ℕ). 10 ∷ x) h ∙ ap (λ (x : ℕ). x ∷ cs) (sym end)
    go false e ls rest h = first ls rest h

-- a text whose last line has its end
some_same : (x y : List Line) → Some x ≡ Some y → x ≡ y
some_same x y e = cc

ended : (c : ℕ) (cs : List ℕ) (ls : List Line) (o : Option (List Line)) → ((xs : List Line) → o ≡ Some xs → whole_lines_and_rest cs ≡ (xs, [])) → eqb c 10 ≡ true → option_map (λ (xs : List Line). [] ∷ xs) o ≡ Some ls → whole_lines_and_rest (c ∷ cs) ≡ (ls, [])
ended c cs ls None h t e = absurd cc
ended c cs ls (Some xs) h t e =
    ap (lines_with_byte_in_front c) (h xs refl) ∙ ap (λ (b : Bool). cond {A = TextLines} b ([] ∷ xs, []) (lines_with_nonend_byte_in_front c xs [])) t ∙ ap (λ (x : List Line). (x, [])) (some_same ([] ∷ xs) ls e)

added : (c : ℕ) (cs : List ℕ) (ls : List Line) (o : Option (List Line)) → ((xs : List Line) → o ≡ Some xs → whole_lines_and_rest cs ≡ (xs, [])) → eqb c 10 ≡ false → add_char c o ≡ Some ls → whole_lines_and_rest (c ∷ cs) ≡ (ls, [])
added c cs ls None h t e = absurd cc
added c cs ls (Some []) h t e = absurd cc
added c cs ls (Some (l ∷ xs)) h t e =
    ap (lines_with_byte_in_front c) (h (l ∷ xs) refl) ∙ ap (λ (b : Bool). cond {A = TextLines} b ([] ∷ l ∷ xs, []) (lines_with_nonend_byte_in_front c (l ∷ xs) [])) t ∙ ap (λ (x : List Line). (x, [])) (some_same ((c ∷ l) ∷ xs) ls e)

pub whole_lines : (t : List ℕ) (ls : List Line) → lines_of_text_if_all_ended t ≡ Some ls → whole_lines_and_rest t ≡ (ls, [])
whole_lines [] ls e = ap (λ (x : List Line). (x, [])) (some_same [] ls e)
whole_lines (c ∷ cs) ls e =
    elim (chosen (eqb c 10) _ _ _ e) [
      | inl x ↦ ended c cs ls (lines_of_text_if_all_ended cs) (whole_lines cs) x.0 x.1
      | inr x ↦ added c cs ls (lines_of_text_if_all_ended cs) (whole_lines cs) x.0 x.1
    ]

-- ---- the tables of roots

-- the first line of a root's dump names its table
pub line_of_root : (w : Which) → IsSome (header_schema_if_root_table w) → table_of_line (schema_line_or_empty_line (header_schema_if_root_table w)) ≡ Some w
unfolding encode_with
line_of_root Dep some = absurd cc
line_of_root Acl some = absurd cc
line_of_root PkgInfo some = absurd cc
line_of_root File some = absurd cc
line_of_root Dir some = absurd cc
line_of_root Scripts some = absurd cc
line_of_root Package some = refl
line_of_root Index some = refl
line_of_root Idb some = refl
line_of_root Intent some = refl

pub record NamesRoot (l : Line) (w : Which) : Type 0 where
  pub root : IsSome (header_schema_if_root_table w)
  pub line : schema_line_or_empty_line (header_schema_if_root_table w) ≡ l

pub root_of_line : (l : Line) (w : Which) → table_of_line l ≡ Some w → NamesRoot l w
root_of_line l w e =
    elim (chosen (bytes_eq l (schema_line_or_empty_line (header_schema_if_root_table Package))) _ _ _ e) [
      | inl x ↦ named Package refl x.0 x.1
      | inr x ↦
          elim (chosen (bytes_eq l (schema_line_or_empty_line (header_schema_if_root_table Index))) _ _ _ x.1) [
            | inl y ↦ named Index refl y.0 y.1
            | inr y ↦
                elim (chosen (bytes_eq l (schema_line_or_empty_line (header_schema_if_root_table Idb))) _ _ _ y.1) [
                  | inl z ↦ named Idb refl z.0 z.1
                  | inr z ↦
                      elim (chosen (bytes_eq l (schema_line_or_empty_line (header_schema_if_root_table Intent))) _ _ _ z.1) [
                        | inl u ↦ named Intent refl u.0 u.1
                        | inr u ↦ absurd (let f = u.1 in cc)
                      ]
                ]
          ]
    ]
  where
    named : (r : Which) → IsSome (header_schema_if_root_table r) → bytes_eq l (schema_line_or_empty_line (header_schema_if_root_table r)) ≡ true → Some r ≡ Some w → NamesRoot l w
    named r some t e =
        let same : r ≡ w = cc in
        subst (λ (x : Which). NamesRoot l x) same (record { root = some; line = sym (is_name l (schema_line_or_empty_line (header_schema_if_root_table r)) t) })

-- ---- the root of a text

split_same : (t : List ℕ) (ls : List Line) → whole_lines_and_rest t ≡ (ls, []) → dumped_root t ≡ and_then (root_of_lines ls) (unless_unfinished_line [] (length ls))
unfolding dumped_root
split_same t ls e = ap (λ (x : TextLines). and_then (root_of_lines x.0) (unless_unfinished_line x.1 (length x.0))) e

-- each dump is read as the root that it is of
pub lines_are_read : (w : Which) (v : Plain) → IsNormalRootValueOfTable w v → root_of_lines (dump_lines w v) ≡ Ok (record { which = w; value = v })
lines_are_read w v is =
    ap (λ (o : Option Which). root_of_lines_below_schema_line o (object_lines_by_table w v)) (line_of_root w is.root) ∙ ap (dumped_root_of_value_read w) (read_back w v is.normal is.bytes)

pub dump_is_read : (w : Which) (v : Plain) → IsNormalRootValueOfTable w v → dumped_root (dump_text w v) ≡ Ok (record { which = w; value = v })
dump_is_read w v is =
    let lines : whole_lines_and_rest (dump_text w v) ≡ (dump_lines w v, []) = whole_lines (dump_text w v) (dump_lines w v) (text_split w v is.normal.0) in
    split_same (dump_text w v) (dump_lines w v) lines
    ∙ ap (λ (r : Result DumpedRoot ℕ). and_then r (unless_unfinished_line [] (length (dump_lines w v)))) (lines_are_read w v is)

-- a value that is read is of bytes
value_bytes : (w : Which) (ls : List Line) (v : Plain) → value_of_lines_below_schema_line w ls ≡ Ok v → IsOfBytes v
unfolding IsOfBytes
value_bytes w [] v e = let same : null ≡ v = cc in subst IsOfBytes same tt
value_bytes w (l ∷ ls) v e = block_bytes (shape_of (Obj w)) (l ∷ ls) v e

-- lines that are read are those of the dump of their root
pub record AreLinesOf (ls : List Line) (root : DumpedRoot) : Type 0 where
  pub is : IsNormalRootValueOfTable root.which root.value
  pub lines : dump_lines root.which root.value ≡ ls

abbrev ok_root : DumpedRoot → Result DumpedRoot ℕ
ok_root r = Ok r

same_root : (p q : DumpedRoot) → ok_root p ≡ ok_root q → p ≡ q
same_root p q e = cc

value_lines_of : (l : Line) (ls : List Line) (w : Which) (r : ResultOrBadLine Plain) (root : DumpedRoot) → table_of_line l ≡ Some w → value_of_lines_below_schema_line w ls ≡ r → dumped_root_of_value_read w r ≡ Ok root → AreLinesOf (l ∷ ls) root
value_lines_of l ls w (Err k) root t e ok = absurd cc
value_lines_of l ls w (Ok v) root t e ok =
    let names = root_of_line l w t in
    let only = only_values w ls v e in
    subst (AreLinesOf (l ∷ ls)) (same_root (record { which = w; value = v }) root ok) (record {
      is = record { root = names.root; normal = only.1; bytes = value_bytes w ls v e };
      lines = ap (λ (x : Line). x ∷ object_lines_by_table w v) names.line ∙ ap (λ (x : List Line). l ∷ x) only.0;
    })

table_lines_of : (l : Line) (ls : List Line) (o : Option Which) (root : DumpedRoot) → table_of_line l ≡ o → root_of_lines_below_schema_line o ls ≡ Ok root → AreLinesOf (l ∷ ls) root
table_lines_of l ls None root t ok = absurd cc
table_lines_of l ls (Some w) root t ok = value_lines_of l ls w (value_of_lines_below_schema_line w ls) root t refl ok

pub lines_of_root : (ls : List Line) (root : DumpedRoot) → root_of_lines ls ≡ Ok root → AreLinesOf ls root
lines_of_root [] root ok = absurd cc
lines_of_root (l ∷ ls) root ok = table_lines_of l ls (table_of_line l) root refl ok

-- a text that is read is the dump of its root
no_rest : (r : Result DumpedRoot ℕ) (rest : List ℕ) (n : ℕ) (root : DumpedRoot) → and_then r (unless_unfinished_line rest n) ≡ Ok root → (r ≡ Ok root) × (rest ≡ [])
no_rest (Err k) rest n root e = absurd cc
no_rest (Ok x) [] n root e = (e, refl)
no_rest (Ok x) (c ∷ cs) n root e = absurd cc

parts_read : (t : List ℕ) (root : DumpedRoot) → dumped_root t ≡ Ok root → (root_of_lines (whole_lines_and_rest t).0 ≡ Ok root) × ((whole_lines_and_rest t).1 ≡ [])
unfolding dumped_root
parts_read t root e = no_rest (root_of_lines (whole_lines_and_rest t).0) (whole_lines_and_rest t).1 (length (whole_lines_and_rest t).0) root e

pub what_is_read : (t : List ℕ) (root : DumpedRoot) → dumped_root t ≡ Ok root → IsNormalRootValueOfTable root.which root.value × (dump_text root.which root.value ≡ t)
what_is_read t root e =
    let (ok, rest) = parts_read t root e in
    let r = lines_of_root (whole_lines_and_rest t).0 root ok in (
      r.is,
      ap dump_text_of_lines r.lines ∙ sym (append-nil (dump_text_of_lines (whole_lines_and_rest t).0)) ∙ ap (λ (x : List ℕ). dump_text_of_lines (whole_lines_and_rest t).0 ++ x) (sym rest) ∙ text_of_lines t,
    )
