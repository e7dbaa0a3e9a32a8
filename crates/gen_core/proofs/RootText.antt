-- What reading a whole text comes to.
use Rattle.std.proofs.Common.{◌≡◌, ◌≢◌, ℕ, suc, ◌+◌, Bool, true, false, List, [], ◌∷◌, length, Option, Some, None, Result, Ok, Err, refl, sym, ap, subst, ◌∙◌, arith}
use Rattle.adb_view.specs.Plain.{Plain}
use Rattle.adb_view.specs.declared.tables.Which.{Which}
use Rattle.base_core.specs.Lists.{and_then}
use Rattle.adb_values.specs.Drafts.{DraftState, draft_with, empty_draft}
use Rattle.adb_values.specs.adb_write.Canonical.{ByteAndValueCounts, payload_or_counts_at_overflow}
use Rattle.adb_values.specs.adb_write.File.{file_of}
use Rattle.adb_values.specs.adb_write.declared.writer.WriteFault.{WriteFault}
use Rattle.adb_values.specs.adb_write.declared.writer.WriteFault.TheVariants as WriteFaults
use Rattle.adb_values.specs.Written.{IsWrittenAs}
use Rattle.adb_dump.specs.Dump.{Line}
use Rattle.adb_dump.specs.ReadBack.{ResultOrBadLine, value_of_lines_below_schema_line}
use Rattle.gen_core.specs.Cursors.{CursorState, cursor_after_line, cursor_from_parts}
use Rattle.gen_core.specs.Generated.{DumpedRoot, IsGenFault, dumped_root, file_of_root, file_of_schema_and_payload_unless_too_large, generated_file, root_of_lines, root_of_lines_below_schema_line, dumped_root_of_value_read, table_of_line, whole_lines_and_rest, unless_unfinished_line, schema_word_or_zero}
use Rattle.gen_core.specs.Reads.{DraftOrBadLine, IsTextFault, block_taken, fault_of_writer, has_rest, table_and_draft_of_root, table_read}
use Rattle.gen_core.specs.declared.generate.GenFault.{GenFault}
use Rattle.gen_core.specs.declared.generate.GenFault.TheVariants.{Bad, TooLarge, Memory}
use Rattle.gen_core.proofs.Reading.{Reading, bad_at, one, taken}

-- the table of a root, and a draft that has its value
abbrev RootTaken : Type 0
RootTaken = Result (Which × DraftState) ℕ

abbrev root_ok : Which × DraftState → RootTaken
root_ok p = Ok p

abbrev bad_root : ℕ → RootTaken
bad_root n = Err n

-- the place after the first line of a text
abbrev pub after_first : List ℕ → CursorState
after_first t = cursor_after_line (whole_lines_and_rest t).0 (cursor_from_parts (whole_lines_and_rest t).0 1 0)

-- ---- what a text says, by its lines

by_lines : (t : List ℕ) (ls : List Line) (r : Result DumpedRoot ℕ) → (whole_lines_and_rest t).0 ≡ ls → root_of_lines ls ≡ r → dumped_root t ≡ and_then r (unless_unfinished_line (whole_lines_and_rest t).1 (length ls))
unfolding dumped_root
by_lines t ls r e f = ap (λ (x : List Line). and_then (root_of_lines x) (unless_unfinished_line (whole_lines_and_rest t).1 (length x))) e ∙ ap (λ (x : Result DumpedRoot ℕ). and_then x (unless_unfinished_line (whole_lines_and_rest t).1 (length ls))) f

pub no_table : (t : List ℕ) (d : DraftState) → table_read (whole_lines_and_rest t).0 ≡ None → table_and_draft_of_root (dumped_root t) d ≡ bad_root 1
no_table t d e = go (whole_lines_and_rest t).0 refl e
  where
    go : (ls : List Line) → (whole_lines_and_rest t).0 ≡ ls → table_read ls ≡ None → table_and_draft_of_root (dumped_root t) d ≡ bad_root 1
    go [] is e = ap (λ (r : Result DumpedRoot ℕ). table_and_draft_of_root r d) (by_lines t [] (Err 1) is refl)
    go (l ∷ ls) is e = ap (λ (r : Result DumpedRoot ℕ). table_and_draft_of_root r d) (by_lines t (l ∷ ls) (Err 1) is (ap (λ (o : Option Which). root_of_lines_below_schema_line o ls) e))

-- a text whose first line names a table
record Opened (t : List ℕ) (which : Which) : Type 0 where
  first : Line
  lines : List Line
  is : (whole_lines_and_rest t).0 ≡ first ∷ lines
  root : root_of_lines (first ∷ lines) ≡ dumped_root_of_value_read which (value_of_lines_below_schema_line which lines)
  place : after_first t ≡ cursor_from_parts lines 2 0

opened : (t : List ℕ) (which : Which) → table_read (whole_lines_and_rest t).0 ≡ Some which → Opened t which
opened t which e = go (whole_lines_and_rest t).0 refl e
  where
    go : (ls : List Line) → (whole_lines_and_rest t).0 ≡ ls → table_read ls ≡ Some which → Opened t which
    go [] is e = absurd cc
    go (l ∷ ls) is e = record {
      first = l;
      lines = ls;
      is = is;
      root = ap (λ (o : Option Which). root_of_lines_below_schema_line o ls) e;
      place = ap (λ (x : List Line). cursor_after_line x (cursor_from_parts x 1 0)) is;
    }

-- what is read after the first line
abbrev pub rest_taken : List ℕ → Which → DraftState → DraftOrBadLine
rest_taken t which d = block_taken (value_of_lines_below_schema_line which (after_first t).lines) ((after_first t).lines, []) d (after_first t)

here : (t : List ℕ) (which : Which) (d : DraftState) (o : Opened t which) → rest_taken t which d ≡ block_taken (value_of_lines_below_schema_line which o.lines) (o.lines, []) d (cursor_from_parts o.lines 2 0)
here t which d o = ap (λ (p : CursorState). block_taken (value_of_lines_below_schema_line which p.lines) (p.lines, []) d p) o.place

pub bad_value : (t : List ℕ) (which : Which) (d : DraftState) (n : ℕ) → table_read (whole_lines_and_rest t).0 ≡ Some which → rest_taken t which d ≡ bad_at n → table_and_draft_of_root (dumped_root t) d ≡ bad_root n
bad_value t which d n e bad = let o = opened t which e in go o (value_of_lines_below_schema_line which o.lines) refl (sym (here t which d o) ∙ bad)
  where
    go : (o : Opened t which) (r : ResultOrBadLine Plain) → value_of_lines_below_schema_line which o.lines ≡ r → block_taken r (o.lines, []) d (cursor_from_parts o.lines 2 0) ≡ bad_at n → table_and_draft_of_root (dumped_root t) d ≡ bad_root n
    go o (Ok v) is bad = absurd cc
    go o (Err k) is bad =
        let number : 2 + k ≡ n = same (2 + k) n bad in
        let count : k + 2 ≡ n = omega (arith, number) in
        ap (λ (r : Result DumpedRoot ℕ). table_and_draft_of_root r d) (by_lines t (o.first ∷ o.lines) (Err (k + 2)) o.is (o.root ∙ ap (dumped_root_of_value_read which) is)) ∙ ap bad_root count
      where
        same : (m n : ℕ) → bad_at m ≡ bad_at n → m ≡ n
        same m n e = cc

-- the value that was read
record ValueRead (t : List ℕ) (which : Which) (d : DraftState) (later : Reading) : Type 0 where
  value : Plain
  draft : later.0 ≡ draft_with value d
  number : later.1.number ≡ length (whole_lines_and_rest t).0 + 1
  root : dumped_root t ≡ unless_unfinished_line (whole_lines_and_rest t).1 (length (whole_lines_and_rest t).0) (record { which = which; value = value })

value_there : (t : List ℕ) (which : Which) (d : DraftState) (later : Reading) → table_read (whole_lines_and_rest t).0 ≡ Some which → rest_taken t which d ≡ Ok later → ValueRead t which d later
value_there t which d later e ok = let o = opened t which e in go o (value_of_lines_below_schema_line which o.lines) refl (sym (here t which d o) ∙ ok)
  where
    go : (o : Opened t which) (r : ResultOrBadLine Plain) → value_of_lines_below_schema_line which o.lines ≡ r → block_taken r (o.lines, []) d (cursor_from_parts o.lines 2 0) ≡ Ok later → ValueRead t which d later
    go o (Err k) is ok = absurd cc
    go o (Ok v) is ok =
        let both = one (draft_with v d, cursor_from_parts [] (2 + length o.lines) _) later ok in
        let number : 2 + length o.lines ≡ later.1.number = ap (λ (p : Reading). p.1.number) both in
        let count : length (whole_lines_and_rest t).0 ≡ suc (length o.lines) = ap length o.is in
        record {
          value = v;
          draft = sym (ap (λ (p : Reading). p.0) both);
          number = omega (arith, number, count);
          root =
              by_lines t (o.first ∷ o.lines) (Ok (record { which = which; value = v })) o.is (o.root ∙ ap (dumped_root_of_value_read which) is)
              ∙ ap (λ (ls : List Line). unless_unfinished_line (whole_lines_and_rest t).1 (length ls) (record { which = which; value = v })) (sym o.is);
        }

pub rest_left : (t : List ℕ) (which : Which) (d : DraftState) (later : Reading) → table_read (whole_lines_and_rest t).0 ≡ Some which → rest_taken t which d ≡ Ok later → true ≡ has_rest (whole_lines_and_rest t).1 → table_and_draft_of_root (dumped_root t) d ≡ bad_root later.1.number
rest_left t which d later e ok rest = let v = value_there t which d later e ok in ap (λ (r : Result DumpedRoot ℕ). table_and_draft_of_root r d) v.root ∙ go (record { which = which; value = v.value }) (whole_lines_and_rest t).1 rest ∙ ap bad_root (sym v.number)
  where
    go : (root : DumpedRoot) (rest : List ℕ) → true ≡ has_rest rest → table_and_draft_of_root (unless_unfinished_line rest (length (whole_lines_and_rest t).0) root) d ≡ bad_root (length (whole_lines_and_rest t).0 + 1)
    go root [] e = absurd cc
    go root (c ∷ cs) e = refl

pub all_read : (t : List ℕ) (which : Which) (d : DraftState) (later : Reading) → table_read (whole_lines_and_rest t).0 ≡ Some which → rest_taken t which d ≡ Ok later → false ≡ has_rest (whole_lines_and_rest t).1 → table_and_draft_of_root (dumped_root t) d ≡ Ok (which, later.0)
all_read t which d later e ok rest = let v = value_there t which d later e ok in ap (λ (r : Result DumpedRoot ℕ). table_and_draft_of_root r d) v.root ∙ go v.value (whole_lines_and_rest t).1 rest ∙ ap (λ (n : DraftState). let r : RootTaken = Ok (which, n) in r) (sym v.draft)
  where
    go : (v : Plain) (rest : List ℕ) → false ≡ has_rest rest → table_and_draft_of_root (unless_unfinished_line rest (length (whole_lines_and_rest t).0) (record { which = which; value = v })) d ≡ Ok (which, draft_with v d)
    go v [] e = refl
    go v (c ∷ cs) e = absurd cc

-- ---- the container

pub gen_fault : (t : List ℕ) (d : DraftState) (fault : GenFault) → IsTextFault fault (table_and_draft_of_root (dumped_root t) d) → IsGenFault fault (generated_file t)
unfolding generated_file
gen_fault t d (Bad n) e = go (dumped_root t) e
  where
    go : (r : Result DumpedRoot ℕ) → table_and_draft_of_root r d ≡ bad_root n → file_of_root r ≡ Err (Bad n)
    go (Ok root) e = absurd cc
    go (Err k) e = let same : k ≡ n = cc in ap (λ (m : ℕ). file_of_root (Err m)) same
gen_fault t d (TooLarge b v) e = absurd e
gen_fault t d Memory e = tt

-- the root whose value a draft has
pub record RootOf (t : List ℕ) (which : Which) (new : DraftState) : Type 0 where
  pub value : Plain
  pub draft : new ≡ draft_with value empty_draft
  pub file : generated_file t ≡ file_of_schema_and_payload_unless_too_large (schema_word_or_zero which) (payload_or_counts_at_overflow value)

pub root_of_text : (t : List ℕ) (which : Which) (new : DraftState) → table_and_draft_of_root (dumped_root t) empty_draft ≡ Ok (which, new) → RootOf t which new
unfolding generated_file
root_of_text t which new e = go (dumped_root t) refl e
  where
    parts : (p q : Which × DraftState) → root_ok p ≡ root_ok q → p ≡ q
    parts p q e = cc

    go : (r : Result DumpedRoot ℕ) → dumped_root t ≡ r → table_and_draft_of_root r empty_draft ≡ Ok (which, new) → RootOf t which new
    go (Err n) is e = absurd cc
    go (Ok root) is e =
        let both = parts (root.which, draft_with root.value empty_draft) (which, new) e in
        record {
          value = root.value;
          draft = sym (ap (λ (p : Which × DraftState). p.1) both);
          file = ap file_of_root is ∙ ap (λ (w : Which). file_of_schema_and_payload_unless_too_large (schema_word_or_zero w) (payload_or_counts_at_overflow root.value)) (ap (λ (p : Which × DraftState). p.0) both);
        }

-- a payload that is not written
pub writer_fault : (t : List ℕ) (which : Which) (new : DraftState) (fault : WriteFault) → RootOf t which new → ((v : Plain) → new ≡ draft_with v empty_draft → IsWrittenAs {A = List ℕ} (λ file. file) (Err fault) (payload_or_counts_at_overflow v)) → IsGenFault (fault_of_writer fault) (generated_file t)
writer_fault t which new (WriteFaults.TooLarge bytes values) r h = r.file ∙ ap (file_of_schema_and_payload_unless_too_large (schema_word_or_zero which)) (h r.value r.draft)
writer_fault t which new WriteFaults.Memory r h = tt
