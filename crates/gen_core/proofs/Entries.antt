-- Entries of arrays, values of fields, and whole lists.
use Rattle.std.proofs.Common.{◌≡◌, ◌≢◌, ℕ, zero, suc, ◌+◌, ◌<◌, ◌≤◌, Bool, true, false, cond, List, [], ◌∷◌, ◌++◌, length, drop, Option, Some, None, Result, Ok, Err, refl, sym, ap, subst, ◌∙◌, append_assoc, arith, inl, inr}
use Rattle.std.specs.Prelude.{codes, bytes_eq, OnOk, IfErr}
use Rattle.std.proofs.lemmas.List.{length-append}
use Rattle.adb_view.specs.Plain.{Plain, Plains, null, none, more, arr, obj, array_or_null, trimmed_object_or_null, object_or_null, without_last_nulls, Shape, number, text, hash, array, object, Fields}
use Rattle.adb_values.specs.Drafts.{DraftState, draft_with, draft_with_all, draft_with_open_list}
use Rattle.base_core.specs.Lists.{and_then}
use Rattle.adb_dump.specs.Dump.{Line}
use Rattle.adb_dump.specs.Margin.{margin}
use Rattle.adb_dump.specs.ReadBack.{ResultOrBadLine, mapped_or_bad_line_shifted_by, strip_prefix, end_block_or_add_line, block_and_lines_after, with_line_before_block, single_line_value, entry_read, entries_from_dash_line, entries_read_with_recursion_bound, array_or_bad_line_if_empty, object_or_bad_line_if_empty, fields_read_with_value_on_line, fields_read_with_value_below, fields_read_by_name_match, block_read, named_read, fields_read}
use Rattle.adb_dump.proofs.Booleans.{chosen}
use Rattle.adb_dump.proofs.ReadOnly.{FieldsOnly, fields_only, some_line as no_line}
use Rattle.adb_dump.proofs.ValueBack.{strip_prefix-append}
use Rattle.gen_core.specs.Cursors.{CursorState, cursor_after_block, cursor_after_line, cursor_at_entry, block_at, cursor_from_parts, line_of_block, margin_levels_after_block}
use Rattle.gen_core.specs.Reads.{DraftOrBadLine, block_taken, end_or_bad_line, entry_block_read, is_null_line, line_read, draft_and_cursor_after_line, values_taken, IsTextFault}
use Rattle.gen_core.specs.declared.generate.GenFault.{GenFault}
use Rattle.gen_core.proofs.Blocks.{FirstLine, Inner, Split, first_line, inner_block, no_block}
use Rattle.gen_core.proofs.Reading.{Answers, CountsOnlyRise, Reading, bad_at, later_values, place_ends, taken}

-- ---- the lines of a block

pub block_len : (depth : ℕ) (ls : List Line) → length (block_at depth ls).1 ≤ length ls
block_len depth [] = omega arith
block_len depth (l ∷ ls) = go (strip_prefix (margin depth) l) (block_len depth ls)
  where
    go : (o : Option Line) → length (block_at depth ls).1 ≤ length ls → length (end_block_or_add_line l ls o (block_at depth ls)).1 ≤ length (l ∷ ls)
    go None h = omega arith
    go (Some inner) h = omega (arith, h)

-- the two parts of a block have its lines
pub split_count : (ls : List Line) → length (block_and_lines_after ls).0 + length (block_and_lines_after ls).1 ≡ length ls
split_count [] = omega arith
split_count (l ∷ ls) = go (strip_prefix (codes "  ") l) (split_count ls)
  where
    go : (o : Option Line) → length (block_and_lines_after ls).0 + length (block_and_lines_after ls).1 ≡ length ls → length (end_block_or_add_line l ls o (block_and_lines_after ls)).0 + length (end_block_or_add_line l ls o (block_and_lines_after ls)).1 ≡ length (l ∷ ls)
    go None h = omega arith
    go (Some inner) h = omega (arith, h)

-- ---- entries

same_dash : (f : List Line → ResultOrBadLine Plain) (g h : List Line → ResultOrBadLine Plains) (r : Split) (o : Option Line) → g r.1 ≡ h r.1 → entries_from_dash_line f g r o ≡ entries_from_dash_line f h r o
same_dash f g h r None e = refl
same_dash f g h r (Some l) e = ap (λ (x : ResultOrBadLine Plains). and_then (entry_read f l r.0) (λ v. mapped_or_bad_line_shifted_by (1 + length r.0) (more v) x)) e

-- the number of lines is enough turns
turns_enough : (f : List Line → ResultOrBadLine Plain) (n m : ℕ) (ls : List Line) → length ls ≤ n → length ls ≤ m → entries_read_with_recursion_bound f n ls ≡ entries_read_with_recursion_bound f m ls
turns_enough f zero zero ls a b = refl
turns_enough f zero (suc m) [] a b = refl
turns_enough f zero (suc m) (l ∷ ls) a b = absurd (omega (arith, a))
turns_enough f (suc n) zero [] a b = refl
turns_enough f (suc n) zero (l ∷ ls) a b = absurd (omega (arith, b))
turns_enough f (suc n) (suc m) [] a b = refl
turns_enough f (suc n) (suc m) (l ∷ ls) a b =
    same_dash f (entries_read_with_recursion_bound f n) (entries_read_with_recursion_bound f m) (block_and_lines_after ls) (strip_prefix (codes "- ") l)
    (turns_enough f n m (block_and_lines_after ls).1 (omega (arith, a, split_count ls)) (omega (arith, b, split_count ls)))

-- an entry's place: its first line has lost its dash, and stands as one that is indented deeper
pub record EntryPlace (depth : ℕ) (line entry : Line) (c : CursorState) : Type 0 where
  -- the lines after it
  pub others : List Line
  -- the block that it begins
  pub outer : block_at depth c.lines ≡ (line ∷ (block_at depth others).0, (block_at depth others).1)
  -- the entry's block
  pub inner : block_at (depth + 1) (cursor_at_entry (depth + 1) entry c.lines c).lines ≡ (entry ∷ (block_and_lines_after (block_at depth others).0).0, (block_at (depth + 1) others).1)
  -- what is left of the outer block after it
  pub later : block_at depth (block_at (depth + 1) others).1 ≡ ((block_and_lines_after (block_at depth others).0).1, (block_at depth others).1)
  pub number : (cursor_at_entry (depth + 1) entry c.lines c).number ≡ c.number
  pub shorter : length (block_at (depth + 1) others).1 < length c.lines

pub entry_place : (depth : ℕ) (line entry : Line) (c : CursorState) → Some line ≡ line_of_block (block_at depth c.lines).0 → EntryPlace depth line entry c
entry_place depth line entry c e =
    let f = first_line depth c.lines line e in
    let h = inner_block depth f.others in
    let place : cursor_at_entry (depth + 1) entry c.lines c ≡ cursor_from_parts ((margin (depth + 1) ++ entry) ∷ f.others) c.number (depth + 1) = ap (λ (ls : List Line). cursor_at_entry (depth + 1) entry ls c) f.lines in
    record {
      others = f.others;
      outer = f.block;
      inner =
          ap (λ (p : CursorState). block_at (depth + 1) p.lines) place
          ∙ ap (λ (o : Option Line). end_block_or_add_line (margin (depth + 1) ++ entry) f.others o (block_at (depth + 1) f.others)) (strip_prefix-append (margin (depth + 1)) entry)
          ∙ ap (λ (ls : List Line). (entry ∷ ls, (block_at (depth + 1) f.others).1)) h.front;
      later = h.later;
      number = ap (λ (p : CursorState). p.number) place;
      shorter = let l : length c.lines ≡ suc (length f.others) = ap length f.lines in omega (arith, l, block_len (depth + 1) f.others);
    }

-- the entries from one on, by the entry
entries_from : (f : List Line → ResultOrBadLine Plain) (line entry : Line) (ls rest : List Line) (d : DraftState) (c : CursorState) → Some entry ≡ strip_prefix (codes "- ") line
    → values_taken (entries_read_with_recursion_bound f (length (line ∷ ls)) (line ∷ ls)) (line ∷ ls, rest) d c ≡ values_taken (entries_from_dash_line f (entries_read_with_recursion_bound f (length ls)) (block_and_lines_after ls) (Some entry)) (line ∷ ls, rest) d c
entries_from f line entry ls rest d c e =
    ap (λ (o : Option Line). values_taken (entries_from_dash_line f (entries_read_with_recursion_bound f (length ls)) (block_and_lines_after ls) o) (line ∷ ls, rest) d c) (sym e)

pub entry_bad : (f : List Line → ResultOrBadLine Plain) (depth : ℕ) (line entry : Line) (d : DraftState) (c : CursorState) → Some line ≡ line_of_block (block_at depth c.lines).0 → Some entry ≡ strip_prefix (codes "- ") line → (n : ℕ)
    → (let new = cursor_at_entry (depth + 1) entry c.lines c in block_taken (entry_block_read f (block_at (depth + 1) new.lines).0) (block_at (depth + 1) new.lines) d new ≡ bad_at n)
    → values_taken (entries_read_with_recursion_bound f (length (block_at depth c.lines).0) (block_at depth c.lines).0) (block_at depth c.lines) d c ≡ bad_at n
entry_bad f depth line entry d c e dash n bad =
    let p = entry_place depth line entry c e in
    let new = cursor_at_entry (depth + 1) entry c.lines c in
    let ls = (block_at depth p.others).0 in
    let inner = sym (ap (λ (b : Split). block_taken (entry_block_read f b.0) b d new) p.inner) ∙ bad in
    ap (λ (b : Split). values_taken (entries_read_with_recursion_bound f (length b.0) b.0) b d c) p.outer
    ∙ entries_from f line entry ls (block_at depth p.others).1 d c dash
    ∙ go (entry_read f entry (block_and_lines_after ls).0) (inner ∙ refl) p.number
  where
    go : (r : ResultOrBadLine Plain) → block_taken r (entry ∷ (block_and_lines_after (block_at depth (entry_place depth line entry c e).others).0).0, (block_at (depth + 1) (entry_place depth line entry c e).others).1) d (cursor_at_entry (depth + 1) entry c.lines c) ≡ bad_at n
        → (cursor_at_entry (depth + 1) entry c.lines c).number ≡ c.number
        → values_taken (and_then r (λ v. mapped_or_bad_line_shifted_by (1 + length (block_and_lines_after (block_at depth (entry_place depth line entry c e).others).0).0) (more v) (entries_read_with_recursion_bound f (length (block_at depth (entry_place depth line entry c e).others).0) (block_and_lines_after (block_at depth (entry_place depth line entry c e).others).0).1)))
        (line ∷ (block_at depth (entry_place depth line entry c e).others).0, (block_at depth (entry_place depth line entry c e).others).1) d c ≡ bad_at n
    go (Ok v) h same = absurd cc
    go (Err k) h same = ap (λ (m : ℕ). bad_at (m + k)) (sym same) ∙ h

-- what an entry leaves
pub record EntryLeft (f : List Line → ResultOrBadLine Plain) (depth : ℕ) (d : DraftState) (c : CursorState) (later : Reading) : Type 0 where
  pub levels : later.1.levels ≡ 0
  pub shorter : length later.1.lines < length c.lines
  pub so_far : values_taken (entries_read_with_recursion_bound f (length (block_at depth later.1.lines).0) (block_at depth later.1.lines).0) (block_at depth later.1.lines) later.0 later.1
      ≡ values_taken (entries_read_with_recursion_bound f (length (block_at depth c.lines).0) (block_at depth c.lines).0) (block_at depth c.lines) d c

pub no_levels : (ls : List Line) → margin_levels_after_block ls 0 ≡ 0
no_levels [] = refl
no_levels (l ∷ ls) = refl

abbrev read_ok : Reading → DraftOrBadLine
read_ok p = Ok p

one : (p q : Reading) → Ok p ≡ read_ok q → p ≡ q
one p q e = cc

-- after an entry that was read
entry_read_left : (f : List Line → ResultOrBadLine Plain) (depth : ℕ) (line entry : Line) (d : DraftState) (c new : CursorState) (p : EntryPlace depth line entry c) (v : Plain) → new.number ≡ c.number
    → values_taken (entries_read_with_recursion_bound f (length (block_at depth c.lines).0) (block_at depth c.lines).0) (block_at depth c.lines) d c
    ≡ values_taken (mapped_or_bad_line_shifted_by (1 + length (block_and_lines_after (block_at depth p.others).0).0) (more v) (entries_read_with_recursion_bound f (length (block_at depth p.others).0) (block_and_lines_after (block_at depth p.others).0).1)) (line ∷ (block_at depth p.others).0, (block_at depth p.others).1) d c
    → EntryLeft f depth d c (draft_with v d, cursor_after_block (entry ∷ (block_and_lines_after (block_at depth p.others).0).0, (block_at (depth + 1) p.others).1) new)
entry_read_left f depth line entry d c new p v same whole =
    let ls = (block_at depth p.others).0 in
    let rest = (block_at depth p.others).1 in
    let r = block_and_lines_after ls in
    let left = (block_at (depth + 1) p.others).1 in
    let place : CursorState = cursor_from_parts left (new.number + length (entry ∷ r.0)) 0 in
    let goes : CountsOnlyRise (line ∷ ls, rest) (r.1, rest) (1 + length r.0) c place = record {
      lines = refl;
      number = omega (arith, same);
      count = omega (arith, split_count ls);
      levels = no_levels r.1;
    } in
    record {
      levels = refl;
      shorter = p.shorter;
      so_far =
          ap (λ (b : Split). values_taken (entries_read_with_recursion_bound f (length b.0) b.0) b (draft_with v d) place) p.later
          ∙ ap (λ (x : ResultOrBadLine Plains). values_taken x (r.1, rest) (draft_with v d) place) (turns_enough f (length r.1) (length ls) r.1 (omega arith) (omega (arith, split_count ls)))
          ∙ sym (later_values (line ∷ ls, rest) (r.1, rest) (1 + length r.0) d c place goes v (entries_read_with_recursion_bound f (length ls) r.1))
          ∙ sym whole;
    }

pub entry_left : (f : List Line → ResultOrBadLine Plain) (depth : ℕ) (line entry : Line) (d : DraftState) (c : CursorState) → Some line ≡ line_of_block (block_at depth c.lines).0 → Some entry ≡ strip_prefix (codes "- ") line → (later : Reading)
    → (let new = cursor_at_entry (depth + 1) entry c.lines c in block_taken (entry_block_read f (block_at (depth + 1) new.lines).0) (block_at (depth + 1) new.lines) d new ≡ Ok later)
    → EntryLeft f depth d c later
entry_left f depth line entry d c e dash later ok = go (entry_read f entry r.0) inner whole
  where
    p : EntryPlace depth line entry c
    p = entry_place depth line entry c e

    new : CursorState
    new = cursor_at_entry (depth + 1) entry c.lines c

    ls : List Line
    ls = (block_at depth p.others).0

    r : Split
    r = block_and_lines_after ls

    inner : block_taken (entry_read f entry r.0) (entry ∷ r.0, (block_at (depth + 1) p.others).1) d new ≡ Ok later
    inner = sym (ap (λ (b : Split). block_taken (entry_block_read f b.0) b d new) p.inner) ∙ ok

    whole : values_taken (entries_read_with_recursion_bound f (length (block_at depth c.lines).0) (block_at depth c.lines).0) (block_at depth c.lines) d c
        ≡ values_taken (and_then (entry_read f entry r.0) (λ v. mapped_or_bad_line_shifted_by (1 + length r.0) (more v) (entries_read_with_recursion_bound f (length ls) r.1))) (line ∷ ls, (block_at depth p.others).1) d c
    whole = ap (λ (b : Split). values_taken (entries_read_with_recursion_bound f (length b.0) b.0) b d c) p.outer ∙ entries_from f line entry ls (block_at depth p.others).1 d c dash

    go : (x : ResultOrBadLine Plain) → block_taken x (entry ∷ r.0, (block_at (depth + 1) p.others).1) d new ≡ Ok later
        → values_taken (entries_read_with_recursion_bound f (length (block_at depth c.lines).0) (block_at depth c.lines).0) (block_at depth c.lines) d c ≡ values_taken (and_then x (λ v. mapped_or_bad_line_shifted_by (1 + length r.0) (more v) (entries_read_with_recursion_bound f (length ls) r.1))) (line ∷ ls, (block_at depth p.others).1) d c
        → EntryLeft f depth d c later
    go (Err k) h whole = absurd cc
    go (Ok v) h whole = subst (λ (x : Reading). EntryLeft f depth d c x) (one (draft_with v d, cursor_after_block (entry ∷ r.0, (block_at (depth + 1) p.others).1) new) later h) (entry_read_left f depth line entry d c new p v p.number whole)

pub no_dash : (f : List Line → ResultOrBadLine Plain) (depth : ℕ) (line : Line) (d : DraftState) (c : CursorState) → Some line ≡ line_of_block (block_at depth c.lines).0 → None ≡ strip_prefix (codes "- ") line
    → values_taken (entries_read_with_recursion_bound f (length (block_at depth c.lines).0) (block_at depth c.lines).0) (block_at depth c.lines) d c ≡ bad_at c.number
no_dash f depth line d c e dash =
    let b = (first_line depth c.lines line e).block in
    let t = block_at depth (first_line depth c.lines line e).others in
    let zero_more : c.number + 0 ≡ c.number = omega arith in
    ap (λ (b : Split). values_taken (entries_read_with_recursion_bound f (length b.0) b.0) b d c) b
    ∙ ap (λ (o : Option Line). values_taken (entries_from_dash_line f (entries_read_with_recursion_bound f (length t.0)) (block_and_lines_after t.0) o) (line ∷ t.0, t.1) d c) (sym dash)
    ∙ ap bad_at zero_more

-- ---- an entry

null_line : (f : List Line → ResultOrBadLine Plain) (depth : ℕ) (line : Line) (d : DraftState) (c : CursorState) (b : FirstLine depth c.lines line) → bytes_eq line (codes "null") ≡ true → (r : Result (Unit {0}) GenFault)
    → r ≡ end_or_bad_line (block_at depth (cursor_after_line c.lines c).lines).0 (cursor_after_line c.lines c).number → Answers r (block_taken (entry_block_read f (block_at depth c.lines).0) (block_at depth c.lines) d c) (draft_with null d) (cursor_after_line c.lines c)
null_line f depth line d c b e r is =
    let t = block_at depth b.others in
    let whole : block_taken (entry_block_read f (block_at depth c.lines).0) (block_at depth c.lines) d c ≡ block_taken (single_line_value (λ x. Ok null) (line ∷ t.0)) (line ∷ t.0, t.1) d c =
    ap (λ (b : Split). block_taken (entry_block_read f b.0) b d c) b.block
    ∙ ap (λ (word : Bool). block_taken (cond word (single_line_value (λ x. Ok null) (line ∷ t.0)) (f (line ∷ t.0))) (line ∷ t.0, t.1) d c) e in
    subst (λ (x : DraftOrBadLine). Answers r x (draft_with null d) (cursor_after_line c.lines c)) (sym whole) (place_ends depth line null d c b r is)

pub null_entry : (f : List Line → ResultOrBadLine Plain) (depth : ℕ) (d : DraftState) (c : CursorState) → true ≡ is_null_line (line_of_block (block_at depth c.lines).0) → (r : Result (Unit {0}) GenFault)
    → r ≡ end_or_bad_line (block_at depth (cursor_after_line c.lines c).lines).0 (cursor_after_line c.lines c).number → Answers r (block_taken (entry_block_read f (block_at depth c.lines).0) (block_at depth c.lines) d c) (draft_with null d) (cursor_after_line c.lines c)
null_entry f depth d c e r is = by_first (line_of_block (block_at depth c.lines).0) refl e
  where
    by_first : (o : Option Line) → o ≡ line_of_block (block_at depth c.lines).0 → true ≡ is_null_line o → Answers r (block_taken (entry_block_read f (block_at depth c.lines).0) (block_at depth c.lines) d c) (draft_with null d) (cursor_after_line c.lines c)
    by_first None h e = absurd cc
    by_first (Some line) h e = null_line f depth line d c (first_line depth c.lines line h) (sym e) r is

pub other_entry : (f : List Line → ResultOrBadLine Plain) (ls : List Line) → false ≡ is_null_line (line_of_block ls) → entry_block_read f ls ≡ f ls
other_entry f [] e = refl
other_entry f (l ∷ ls) e = ap (λ (word : Bool). cond word (single_line_value (λ x. Ok null) (l ∷ ls)) (f (l ∷ ls))) (sym e)

-- ---- lists

-- a list whose values were read is closed
pub list_closed : (x : ResultOrBadLine Plains) (read : Plains → ResultOrBadLine Plain) (made : Plains → Plain) (block : Split) (d : DraftState) (c : CursorState) → ((vs : Plains) → x ≡ Ok vs → read vs ≡ Ok (made vs)) → (later : Reading)
    → values_taken x block (draft_with_open_list d) c ≡ Ok later → (new : DraftState) → ((vs : Plains) (before : DraftState) → later.0 ≡ draft_with_all vs (draft_with_open_list before) → new ≡ draft_with (made vs) before)
    → block_taken (and_then x read) block d c ≡ taken new later.1
list_closed (Err k) read made block d c h later ok new close = absurd cc
list_closed (Ok vs) read made block d c h later ok new close =
    let both = one (draft_with_all vs (draft_with_open_list d), cursor_after_block block c) later ok in
    let first : draft_with_all vs (draft_with_open_list d) ≡ later.0 = ap (λ (p : Reading). p.0) both in
    let second : cursor_after_block block c ≡ later.1 = ap (λ (p : Reading). p.1) both in
    ap (λ (r : ResultOrBadLine Plain). block_taken r block d c) (h vs refl)
    ∙ ap (λ (p : CursorState). taken (draft_with (made vs) d) p) second
    ∙ ap (λ (n : DraftState). taken n later.1) (sym (close vs d (sym first)))

pub list_bad : (x : ResultOrBadLine Plains) (read : Plains → ResultOrBadLine Plain) (block : Split) (d open_draft : DraftState) (c : CursorState) (n : ℕ) → values_taken x block open_draft c ≡ bad_at n → block_taken (and_then x read) block d c ≡ bad_at n
list_bad (Err k) read block d o c n e = e
list_bad (Ok vs) read block d o c n e = absurd cc

more_values : (o : ResultOrBadLine Plain) (n : ℕ) (r : ResultOrBadLine Plains) → and_then o (λ v. mapped_or_bad_line_shifted_by n (more v) r) ≢ Ok none
more_values (Ok v) n (Ok vs) e = absurd cc
more_values (Ok v) n (Err k) e = absurd cc
more_values (Err k) n r e = absurd cc

pub some_entries : (f : List Line → ResultOrBadLine Plain) (ls : List Line) (line : Line) → Some line ≡ line_of_block ls → entries_read_with_recursion_bound f (length ls) ls ≢ Ok none
some_entries f [] line e = absurd cc
some_entries f (l ∷ ls) line e = go (strip_prefix (codes "- ") l)
  where
    go : (o : Option Line) → entries_from_dash_line f (entries_read_with_recursion_bound f (length ls)) (block_and_lines_after ls) o ≢ Ok none
    go None e = absurd cc
    go (Some m) e = more_values (entry_read f m (block_and_lines_after ls).0) (1 + length (block_and_lines_after ls).0) (entries_read_with_recursion_bound f (length ls) (block_and_lines_after ls).1) e

pub array_made : (f : List Line → ResultOrBadLine Plain) (ls : List Line) (line : Line) → Some line ≡ line_of_block ls → (vs : Plains) → entries_read_with_recursion_bound f (length ls) ls ≡ Ok vs → array_or_bad_line_if_empty vs ≡ Ok (array_or_null vs)
array_made f ls line e none is = absurd (some_entries f ls line e is)
array_made f ls line e (more v vs) is = refl

pub object_made : (fs : Fields) (ls : List Line) (line : Line) → Some line ≡ line_of_block ls → (vs : Plains) → fields_read fs ls ≡ Ok vs → object_or_bad_line_if_empty vs ≡ Ok (trimmed_object_or_null vs)
object_made fs [] line e vs is = absurd cc
object_made fs (l ∷ ls) line e vs is = go vs (fields_only fs (l ∷ ls) vs is)
  where
    go : (vs : Plains) → FieldsOnly fs (l ∷ ls) vs → object_or_bad_line_if_empty vs ≡ Ok (trimmed_object_or_null vs)
    go none r = absurd (no_line fs l ls r.lines)
    go (more v vs) r = ap (λ (us : Plains). let x : ResultOrBadLine Plain = Ok (object_or_null us) in x) (sym r.trim)

-- ---- the value of a field

-- the shape's value is on the line of its field's name
abbrev pub IsOnLine : Shape → Type 0
IsOnLine s = (g : List Line → ResultOrBadLine Plains) (ls : List Line) (l : Line) → named_read s g ls l ≡ fields_read_with_value_on_line (line_read s) g ls (strip_prefix (codes " ") l)

-- the shape's value is below its field's name
abbrev pub IsBelow : Shape → Type 0
IsBelow s = (g : List Line → ResultOrBadLine Plains) (ls : List Line) (l : Line) → named_read s g ls l ≡ fields_read_with_value_below (block_read s) g (block_and_lines_after ls) l

some_line : (ls : List Line) → 0 < length ls → (line : Line) × (Some line ≡ line_of_block ls)
some_line [] lt = absurd (omega arith)
some_line (l ∷ ls) lt = (l, refl)

-- a block with a first line
pub block_first : (depth : ℕ) (c : CursorState) → 0 < length (block_at depth c.lines).0 → (line : Line) × FirstLine depth c.lines line
block_first depth c lt = let (line, e) = some_line (block_at depth c.lines).0 lt in (line, first_line depth c.lines line e)

zero_more : (n : ℕ) → bad_at (n + 0) ≡ bad_at n
zero_more n = let e : n + 0 ≡ n = omega arith in ap bad_at e

pub no_space : (s : Shape) → IsOnLine s → (g : List Line → ResultOrBadLine Plains) (ls : List Line) (value : Line) (block : Split) (d : DraftState) (c : CursorState) → None ≡ strip_prefix (codes " ") value → values_taken (named_read s g ls value) block d c ≡ bad_at c.number
no_space s h g ls value block d c e =
    ap (λ (r : ResultOrBadLine Plains). values_taken r block d c) (h g ls value ∙ ap (fields_read_with_value_on_line (line_read s) g ls) (sym e)) ∙ zero_more c.number

pub line_bad : (s : Shape) → IsOnLine s → (g : List Line → ResultOrBadLine Plains) (ls : List Line) (value word : Line) (block : Split) (d : DraftState) (c : CursorState) (n : ℕ) → Some word ≡ strip_prefix (codes " ") value → draft_and_cursor_after_line (line_read s word) d c ≡ bad_at n
    → values_taken (named_read s g ls value) block d c ≡ bad_at n
line_bad s h g ls value word block d c n e bad =
    ap (λ (r : ResultOrBadLine Plains). values_taken r block d c) (h g ls value ∙ ap (fields_read_with_value_on_line (line_read s) g ls) (sym e)) ∙ go (line_read s word) bad
  where
    go : (x : ResultOrBadLine Plain) → draft_and_cursor_after_line x d c ≡ bad_at n → values_taken (and_then x (λ v. mapped_or_bad_line_shifted_by 1 (more v) (g ls))) block d c ≡ bad_at n
    go (Ok v) bad = absurd cc
    go (Err k) bad = bad

-- what the value of a field leaves
pub record NamedLeft (s : Shape) (value : Line) (depth : ℕ) (d : DraftState) (c : CursorState) (later : Reading) : Type 0 where
  pub levels : later.1.levels ≡ 0
  pub goes : (g : List Line → ResultOrBadLine Plains) → values_taken (named_read s g (drop 1 (block_at depth c.lines).0) value) (block_at depth c.lines) d c ≡ values_taken (g (block_at depth later.1.lines).0) (block_at depth later.1.lines) later.0 later.1

pub line_left : (s : Shape) → IsOnLine s → (depth : ℕ) (value word : Line) (d : DraftState) (c : CursorState) → 0 < length (block_at depth c.lines).0 → Some word ≡ strip_prefix (codes " ") value → (later : Reading) → draft_and_cursor_after_line (line_read s word) d c ≡ Ok later
    → NamedLeft s value depth d c later
line_left s h depth value word d c some e later ok = go (line_read s word) refl ok
  where
    first : (line : Line) × FirstLine depth c.lines line
    first = block_first depth c some

    f : FirstLine depth c.lines first.0
    f = first.1

    t : Split
    t = block_at depth f.others

    next : cursor_after_line c.lines c ≡ cursor_from_parts f.others (c.number + 1) 0
    next = ap (λ (ls : List Line). cursor_after_line ls c) f.lines

    goes : CountsOnlyRise (first.0 ∷ t.0, t.1) t 1 c (cursor_from_parts f.others (c.number + 1) 0)
    goes = record { lines = refl; number = refl; count = omega arith; levels = no_levels t.0 }

    here : (v : Plain) → line_read s word ≡ Ok v → NamedLeft s value depth d c (draft_with v d, cursor_from_parts f.others (c.number + 1) 0)
    here v is = record {
      levels = refl;
      goes = λ g.
          ap (λ (b : Split). values_taken (named_read s g (drop 1 b.0) value) b d c) f.block
          ∙ ap (λ (r : ResultOrBadLine Plains). values_taken r (first.0 ∷ t.0, t.1) d c) (h g t.0 value ∙ ap (fields_read_with_value_on_line (line_read s) g t.0) (sym e))
          ∙ ap (λ (x : ResultOrBadLine Plain). values_taken (and_then x (λ v. mapped_or_bad_line_shifted_by 1 (more v) (g t.0))) (first.0 ∷ t.0, t.1) d c) is
          ∙ later_values (first.0 ∷ t.0, t.1) t 1 d c (cursor_from_parts f.others (c.number + 1) 0) goes v (g t.0);
    }

    go : (x : ResultOrBadLine Plain) → line_read s word ≡ x → draft_and_cursor_after_line x d c ≡ Ok later → NamedLeft s value depth d c later
    go (Err k) is ok = absurd cc
    go (Ok v) is ok = subst (λ (p : Reading). NamedLeft s value depth d c p) (one (draft_with v d, cursor_from_parts f.others (c.number + 1) 0) later (ap (λ (p : CursorState). taken (draft_with v d) p) (sym next) ∙ ok)) (here v is)

-- a value that is on the line where it should be below
pub not_below : (s : Shape) → IsBelow s → (g : List Line → ResultOrBadLine Plains) (ls : List Line) (value : Line) (block : Split) (d : DraftState) (c : CursorState) → value ≢ [] → values_taken (named_read s g ls value) block d c ≡ bad_at c.number
not_below s h g ls [] block d c ne = absurd (ne refl)
not_below s h g ls (x ∷ xs) block d c ne = ap (λ (r : ResultOrBadLine Plains). values_taken r block d c) (h g ls (x ∷ xs)) ∙ zero_more c.number

-- the block below a field's name
record Below (depth : ℕ) (c : CursorState) : Type 0 where
  line : Line
  first : FirstLine depth c.lines line
  next : cursor_after_line c.lines c ≡ cursor_from_parts first.others (c.number + 1) 0
  inner : (block_at (depth + 1) (cursor_after_line c.lines c).lines) ≡ ((block_and_lines_after (block_at depth first.others).0).0, (block_at (depth + 1) first.others).1)
  later : block_at depth (block_at (depth + 1) first.others).1 ≡ ((block_and_lines_after (block_at depth first.others).0).1, (block_at depth first.others).1)

below : (depth : ℕ) (c : CursorState) → 0 < length (block_at depth c.lines).0 → Below depth c
below depth c some =
    let (line, f) = block_first depth c some in
    let h = inner_block depth f.others in
    let next : cursor_after_line c.lines c ≡ cursor_from_parts f.others (c.number + 1) 0 = ap (λ (ls : List Line). cursor_after_line ls c) f.lines in
    record {
      line = line;
      first = f;
      next = next;
      inner = ap (λ (p : CursorState). block_at (depth + 1) p.lines) next ∙ ap (λ (ls : List Line). (ls, (block_at (depth + 1) f.others).1)) h.front;
      later = h.later;
    }

-- what is read of a field whose value is below
below_read : (s : Shape) → IsBelow s → (depth : ℕ) (value : Line) (d : DraftState) (c : CursorState) (b : Below depth c) → value ≡ [] → (g : List Line → ResultOrBadLine Plains) → (x : ResultOrBadLine Plain) → block_read s (block_and_lines_after (block_at depth b.first.others).0).0 ≡ x
    → values_taken (named_read s g (drop 1 (block_at depth c.lines).0) value) (block_at depth c.lines) d c
    ≡ values_taken (and_then (mapped_or_bad_line_shifted_by 1 (λ v. v) x) (λ v. mapped_or_bad_line_shifted_by (1 + length (block_and_lines_after (block_at depth b.first.others).0).0) (more v) (g (block_and_lines_after (block_at depth b.first.others).0).1))) (b.line ∷ (block_at depth b.first.others).0, (block_at depth b.first.others).1) d c
below_read s h depth value d c b e g x is =
    let t = block_at depth b.first.others in
    let r = block_and_lines_after t.0 in
    ap (λ (y : Split). values_taken (named_read s g (drop 1 y.0) value) y d c) b.first.block
    ∙ ap (λ (y : ResultOrBadLine Plains). values_taken y (b.line ∷ t.0, t.1) d c) (h g t.0 value ∙ ap (fields_read_with_value_below (block_read s) g r) e)
    ∙ ap (λ (y : ResultOrBadLine Plain). values_taken (and_then (mapped_or_bad_line_shifted_by 1 (λ v. v) y) (λ v. mapped_or_bad_line_shifted_by (1 + length r.0) (more v) (g r.1))) (b.line ∷ t.0, t.1) d c) is

-- the block below, as it was taken
below_taken : (s : Shape) (depth : ℕ) (d : DraftState) (c : CursorState) (b : Below depth c) (y : DraftOrBadLine) → block_taken (block_read s (block_at (depth + 1) (cursor_after_line c.lines c).lines).0) (block_at (depth + 1) (cursor_after_line c.lines c).lines) d (cursor_after_line c.lines c) ≡ y
    → block_taken (block_read s (block_and_lines_after (block_at depth b.first.others).0).0) ((block_and_lines_after (block_at depth b.first.others).0).0, (block_at (depth + 1) b.first.others).1) d (cursor_from_parts b.first.others (c.number + 1) 0) ≡ y
below_taken s depth d c b y e =
    let r = block_and_lines_after (block_at depth b.first.others).0 in
    let left = (block_at (depth + 1) b.first.others).1 in
    ap (λ (p : CursorState). block_taken (block_read s r.0) (r.0, left) d p) (sym b.next)
    ∙ ap (λ (x : Split). block_taken (block_read s x.0) x d (cursor_after_line c.lines c)) (sym b.inner) ∙ e

pub below_bad : (s : Shape) → IsBelow s → (depth : ℕ) (value : Line) (d : DraftState) (c : CursorState) → 0 < length (block_at depth c.lines).0 → value ≡ [] → (n : ℕ)
    → block_taken (block_read s (block_at (depth + 1) (cursor_after_line c.lines c).lines).0) (block_at (depth + 1) (cursor_after_line c.lines c).lines) d (cursor_after_line c.lines c) ≡ bad_at n
    → (g : List Line → ResultOrBadLine Plains) → values_taken (named_read s g (drop 1 (block_at depth c.lines).0) value) (block_at depth c.lines) d c ≡ bad_at n
below_bad s h depth value d c some e n bad g = go (block_read s r.0) refl (below_taken s depth d c b (bad_at n) bad)
  where
    b : Below depth c
    b = below depth c some

    r : Split
    r = block_and_lines_after (block_at depth b.first.others).0

    go : (x : ResultOrBadLine Plain) → block_read s r.0 ≡ x → block_taken x (r.0, (block_at (depth + 1) b.first.others).1) d (cursor_from_parts b.first.others (c.number + 1) 0) ≡ bad_at n
        → values_taken (named_read s g (drop 1 (block_at depth c.lines).0) value) (block_at depth c.lines) d c ≡ bad_at n
    go (Ok v) is bad = absurd cc
    go (Err k) is bad =
        let m : c.number + (1 + k) ≡ c.number + 1 + k = omega arith in
        below_read s h depth value d c b e g (Err k) is ∙ ap bad_at m ∙ bad

pub below_left : (s : Shape) → IsBelow s → (depth : ℕ) (value : Line) (d : DraftState) (c : CursorState) → 0 < length (block_at depth c.lines).0 → value ≡ [] → (later : Reading)
    → block_taken (block_read s (block_at (depth + 1) (cursor_after_line c.lines c).lines).0) (block_at (depth + 1) (cursor_after_line c.lines c).lines) d (cursor_after_line c.lines c) ≡ Ok later → NamedLeft s value depth d c later
below_left s h depth value d c some e later ok = go (block_read s r.0) refl (below_taken s depth d c b (Ok later) ok)
  where
    b : Below depth c
    b = below depth c some

    t : Split
    t = block_at depth b.first.others

    r : Split
    r = block_and_lines_after t.0

    left : List Line
    left = (block_at (depth + 1) b.first.others).1

    place : CursorState
    place = cursor_from_parts left (c.number + 1 + length r.0) (margin_levels_after_block r.0 0)

    goes : CountsOnlyRise (b.line ∷ t.0, t.1) (r.1, t.1) (1 + length r.0) c place
    goes = record {
      lines = refl;
      number = omega arith;
      count = omega (arith, split_count t.0);
      levels = ap (margin_levels_after_block r.1) (no_levels r.0) ∙ no_levels r.1;
    }

    here : (v : Plain) → block_read s r.0 ≡ Ok v → NamedLeft s value depth d c (draft_with v d, place)
    here v is = record {
      levels = no_levels r.0;
      goes = λ g.
          below_read s h depth value d c b e g (Ok v) is
          ∙ later_values (b.line ∷ t.0, t.1) (r.1, t.1) (1 + length r.0) d c place goes v (g r.1)
          ∙ ap (λ (x : Split). values_taken (g x.0) x (draft_with v d) place) (sym b.later);
    }

    go : (x : ResultOrBadLine Plain) → block_read s r.0 ≡ x → block_taken x (r.0, left) d (cursor_from_parts b.first.others (c.number + 1) 0) ≡ Ok later → NamedLeft s value depth d c later
    go (Err k) is ok = absurd cc
    go (Ok v) is ok = subst (λ (p : Reading). NamedLeft s value depth d c p) (one (draft_with v d, place) later ok) (here v is)
