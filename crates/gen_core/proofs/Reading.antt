-- What is read of a block, step by step.
use Rattle.std.proofs.Common.{◌≡◌, ◌≢◌, ℕ, zero, suc, ◌+◌, ◌<◌, ◌≤◌, Bool, true, false, List, [], ◌∷◌, ◌++◌, length, drop, Option, Some, None, Result, Ok, Err, refl, sym, ap, subst, ◌∙◌, append_assoc, arith}
use Rattle.std.specs.Prelude.{codes, bytes_eq, OnOk, IfErr}
use Rattle.adb_view.specs.Plain.{Plain, Plains, null, none, more, Shape, number, text, hash, array, object, Fields, no_fields, field}
use Rattle.adb_values.specs.Drafts.{DraftState, draft_with, draft_with_all, draft_with_open_list}
use Rattle.base_core.specs.Lists.{and_then}
use Rattle.adb_dump.specs.Dump.{Line}
use Rattle.adb_dump.specs.Margin.{margin}
use Rattle.adb_dump.specs.ReadBack.{ResultOrBadLine, mapped_or_bad_line_shifted_by, strip_prefix, end_block_or_add_line, block_and_lines_after, single_line_value, entry_read, entries_from_dash_line, entries_read_with_recursion_bound, array_or_bad_line_if_empty, object_or_bad_line_if_empty, fields_read_with_value_on_line, fields_read_with_value_below, fields_read_by_name_match, block_read, named_read, fields_read}
use Rattle.gen_core.specs.Cursors.{CursorState, cursor_after_block, cursor_after_line, cursor_at_entry, block_at, cursor_from_parts, line_of_block, margin_levels_after_block}
use Rattle.gen_core.specs.Reads.{DraftOrBadLine, block_taken, end_or_bad_line, entry_block_read, is_null_line, line_read, draft_and_cursor_after_line, values_taken, IsTextFault}
use Rattle.gen_core.specs.declared.generate.GenFault.{GenFault}
use Rattle.gen_core.specs.declared.generate.GenFault.TheVariants.{Bad, TooLarge, Memory}
use Rattle.gen_core.proofs.Blocks.{FirstLine, Inner, Split, first_line, inner_block, no_block}

-- a draft and a place
abbrev pub Reading : Type 0
Reading = DraftState × CursorState

abbrev pub taken : DraftState → CursorState → DraftOrBadLine
taken d c = Ok (d, c)

abbrev pub bad_at : ℕ → DraftOrBadLine
bad_at n = Err n

-- ---- what a function answers

-- the answer of a function, by what reading comes to
pub record Answers (r : Result (Unit {0}) GenFault) (read : DraftOrBadLine) (d : DraftState) (c : CursorState) : Type 0 where
  pub ok : OnOk r (read ≡ taken d c)
  pub err : IfErr r (λ fault. IsTextFault fault read)

-- a fault of one reading is one of another
pub same_fault : {A B : Type 0} (fault : GenFault) (r : Result A ℕ) (s : Result B ℕ) → ((n : ℕ) → r ≡ Err n → s ≡ Err n) → IsTextFault fault r → IsTextFault fault s
same_fault (Bad n) r s h e = h n e
same_fault (TooLarge b v) r s h e = e
same_fault Memory r s h e = e

-- a bad line is reported
pub bad_fault : {A : Type 0} (fault : GenFault) (n : ℕ) (read : Result A ℕ) → fault ≡ Bad n → read ≡ Err n → IsTextFault fault read
bad_fault fault n read e bad = subst (λ (f : GenFault). IsTextFault f read) (sym e) bad

-- what follows from a clause of a call
pub on_ok : (r : Result (Unit {0}) GenFault) (P Q : Type 0) → (P → Q) → OnOk r P → OnOk r Q
on_ok (Ok u) P Q f p = f p
on_ok (Err e) P Q f p = tt

pub if_err : (r : Result (Unit {0}) GenFault) (P Q : GenFault → Type 0) → ((fault : GenFault) → P fault → Q fault) → IfErr r P → IfErr r Q
if_err (Ok u) P Q f p = tt
if_err (Err e) P Q f p = f e p

-- what a `?` hands on
pub handed_on : {T : Type 0} (r : Result T GenFault) (fault : GenFault) (P : GenFault → Type 0) → (y : GenFault) × (r ≡ Err y) × (y ≡ fault) → P fault → IfErr r P
handed_on r fault P p h = subst (λ r. IfErr r P) (sym (p.1 ∙ ap Err p.2)) h

number_plus_zero : (n : ℕ) → bad_at (n + 0) ≡ bad_at n
number_plus_zero n = let e : n + 0 ≡ n = omega arith in ap bad_at e

abbrev pub read_ok : Reading → DraftOrBadLine
read_ok p = Ok p

pub one : (p q : Reading) → Ok p ≡ read_ok q → p ≡ q
one p q e = cc

-- ---- no lines

pub nothing_read : (s : Shape) → block_read s [] ≡ Err 0
unfolding block_read fields_read
nothing_read number = refl
nothing_read text = refl
nothing_read hash = refl
nothing_read (array s) = refl
nothing_read (object which no_fields) = refl
nothing_read (object which (field name s fs)) = refl

pub none_taken : (s : Shape) (depth : ℕ) (d : DraftState) (c : CursorState) → None ≡ line_of_block (block_at depth c.lines).0 → block_taken (block_read s (block_at depth c.lines).0) (block_at depth c.lines) d c ≡ bad_at c.number
none_taken s depth d c e =
    ap (λ (b : Split). block_taken (block_read s b.0) b d c) (no_block depth c.lines e)
    ∙ ap (λ (r : ResultOrBadLine Plain). block_taken r ([], c.lines) d c) (nothing_read s) ∙ number_plus_zero c.number

same_place : (c : CursorState) → cursor_after_block ([], c.lines) c ≡ c
same_place c = let e : c.number + 0 ≡ c.number = omega arith in ap (λ (n : ℕ). cursor_from_parts c.lines n c.levels) e

no_values : (r : List Line → ResultOrBadLine Plains) (depth : ℕ) (d : DraftState) (c : CursorState) → r [] ≡ Ok none → None ≡ line_of_block (block_at depth c.lines).0 → values_taken (r (block_at depth c.lines).0) (block_at depth c.lines) d c ≡ taken d c
no_values r depth d c h e =
    ap (λ (b : Split). values_taken (r b.0) b d c) (no_block depth c.lines e)
    ∙ ap (λ (x : ResultOrBadLine Plains). values_taken x ([], c.lines) d c) h ∙ ap (λ (x : CursorState). taken d x) (same_place c)

no_fields_left : (fs : Fields) → fields_read fs [] ≡ Ok none
unfolding fields_read
no_fields_left no_fields = refl
no_fields_left (field name s fs) = refl

pub fields_stop : (fs : Fields) (depth : ℕ) (d : DraftState) (c : CursorState) → None ≡ line_of_block (block_at depth c.lines).0 → values_taken (fields_read fs (block_at depth c.lines).0) (block_at depth c.lines) d c ≡ taken d c
fields_stop fs depth d c e = no_values (fields_read fs) depth d c (no_fields_left fs) e

pub entries_stop : (f : List Line → ResultOrBadLine Plain) (depth : ℕ) (d : DraftState) (c : CursorState) → None ≡ line_of_block (block_at depth c.lines).0 → values_taken (entries_read_with_recursion_bound f (length (block_at depth c.lines).0) (block_at depth c.lines).0) (block_at depth c.lines) d c ≡ taken d c
entries_stop f depth d c e = no_values (λ ls. entries_read_with_recursion_bound f (length ls) ls) depth d c refl e

-- ---- values that come after a value

-- the place after a value, from which the block goes on
pub record CountsOnlyRise (block later : Split) (n : ℕ) (c new : CursorState) : Type 0 where
  pub lines : later.1 ≡ block.1
  pub number : new.number ≡ c.number + n
  pub count : n + length later.0 ≡ length block.0
  pub levels : margin_levels_after_block later.0 new.levels ≡ margin_levels_after_block block.0 c.levels

pub later_values : (block later : Split) (n : ℕ) (d : DraftState) (c new : CursorState) → CountsOnlyRise block later n c new → (v : Plain) (r : ResultOrBadLine Plains) → values_taken (mapped_or_bad_line_shifted_by n (more v) r) block d c ≡ values_taken r later (draft_with v d) new
later_values block later n d c new g v (Ok vs) =
    let count : c.number + length block.0 ≡ new.number + length later.0 = omega (arith, g.number, g.count) in
    ap (λ (x : CursorState). taken (draft_with_all vs (draft_with v d)) x)
    (ap (λ (ls : List Line). cursor_from_parts ls (c.number + length block.0) (margin_levels_after_block block.0 c.levels)) (sym g.lines)
    ∙ ap (λ (k : ℕ). cursor_from_parts later.1 k (margin_levels_after_block block.0 c.levels)) count
    ∙ ap (λ (k : ℕ). cursor_from_parts later.1 (new.number + length later.0) k) (sym g.levels))
later_values block later n d c new g v (Err k) =
    let e : c.number + (n + k) ≡ new.number + k = omega (arith, g.number) in
    ap bad_at e

-- ---- a block of one line

-- the shape has one line
abbrev pub HasOneLine : Shape → Type 0
HasOneLine s = (ls : List Line) → block_read s ls ≡ single_line_value (line_read s) ls

pub only_line_bad : (s : Shape) → HasOneLine s → (depth : ℕ) (line : Line) (d : DraftState) (c : CursorState) → Some line ≡ line_of_block (block_at depth c.lines).0 → (n : ℕ) → draft_and_cursor_after_line (line_read s line) d c ≡ bad_at n → block_taken (block_read s (block_at depth c.lines).0) (block_at depth c.lines) d c ≡ bad_at n
only_line_bad s h depth line d c e n bad =
    let f = first_line depth c.lines line e in
    let t = block_at depth f.others in
    ap (λ (b : Split). block_taken (block_read s b.0) b d c) f.block
    ∙ ap (λ (r : ResultOrBadLine Plain). block_taken r (line ∷ t.0, t.1) d c) (h (line ∷ t.0))
    ∙ go (line_read s line) t.0 t.1 bad
  where
    go : (r : ResultOrBadLine Plain) (ls rest : List Line) → draft_and_cursor_after_line r d c ≡ bad_at n → block_taken (single_line_value (λ x. r) (line ∷ ls)) (line ∷ ls, rest) d c ≡ bad_at n
    go (Ok v) ls rest e = absurd cc
    go (Err k) [] rest e = e
    go (Err k) (m ∷ ms) rest e = e

-- a line was read as a value, and then the block has to end
pub line_ends : (line : Line) (v : Plain) (d : DraftState) (c : CursorState) (others ls rest : List Line) → (None ≡ line_of_block ls → rest ≡ others) → (r : Result (Unit {0}) GenFault) → r ≡ end_or_bad_line ls (c.number + 1)
    → Answers r (block_taken (single_line_value (λ x. Ok v) (line ∷ ls)) (line ∷ ls, rest) d c) (draft_with v d) (cursor_from_parts others (c.number + 1) 0)
line_ends line v d c others [] rest same r is = subst (λ (r : Result (Unit {0}) GenFault). Answers r (block_taken (Ok v) (line ∷ [], rest) d c) (draft_with v d) (cursor_from_parts others (c.number + 1) 0)) (sym is) (record { ok = ap (λ (ls : List Line). taken (draft_with v d) (cursor_from_parts ls (c.number + 1) 0)) (same refl); err = tt })
line_ends line v d c others (m ∷ ms) rest same r is = subst (λ (r : Result (Unit {0}) GenFault). Answers r (bad_at (c.number + 1)) (draft_with v d) (cursor_from_parts others (c.number + 1) 0)) (sym is) (record { ok = tt; err = refl })

-- the same, where the place is the one after the line
pub place_ends : (depth : ℕ) (line : Line) (v : Plain) (d : DraftState) (c : CursorState) (f : FirstLine depth c.lines line) (r : Result (Unit {0}) GenFault) → r ≡ end_or_bad_line (block_at depth (cursor_after_line c.lines c).lines).0 (cursor_after_line c.lines c).number
    → Answers r (block_taken (single_line_value (λ x. Ok v) (line ∷ (block_at depth f.others).0)) (line ∷ (block_at depth f.others).0, (block_at depth f.others).1) d c) (draft_with v d) (cursor_after_line c.lines c)
place_ends depth line v d c f r is =
    let t = block_at depth f.others in
    let next : cursor_after_line c.lines c ≡ cursor_from_parts f.others (c.number + 1) 0 = ap (λ (ls : List Line). cursor_after_line ls c) f.lines in
    subst (λ (p : CursorState). r ≡ end_or_bad_line (block_at depth p.lines).0 p.number → Answers r (block_taken (single_line_value (λ x. Ok v) (line ∷ t.0)) (line ∷ t.0, t.1) d c) (draft_with v d) p) (sym next)
    (line_ends line v d c f.others t.0 t.1 (λ none. ap (λ (b : Split). b.1) (no_block depth f.others none)) r) is

-- the line is read, and then the block has to end
pub only_line_ends : (s : Shape) → HasOneLine s → (depth : ℕ) (line : Line) (d : DraftState) (c : CursorState) → Some line ≡ line_of_block (block_at depth c.lines).0 → (later : Reading) → draft_and_cursor_after_line (line_read s line) d c ≡ Ok later
    → (r : Result (Unit {0}) GenFault) → r ≡ end_or_bad_line (block_at depth later.1.lines).0 later.1.number → Answers r (block_taken (block_read s (block_at depth c.lines).0) (block_at depth c.lines) d c) later.0 later.1
only_line_ends s h depth line d c e later ok r is =
    subst (λ (x : DraftOrBadLine). Answers r x later.0 later.1) (sym whole) (go (line_read s line) ok)
  where
    f : FirstLine depth c.lines line
    f = first_line depth c.lines line e

    t : Split
    t = block_at depth f.others

    whole : block_taken (block_read s (block_at depth c.lines).0) (block_at depth c.lines) d c ≡ block_taken (single_line_value (line_read s) (line ∷ t.0)) (line ∷ t.0, t.1) d c
    whole = ap (λ (b : Split). block_taken (block_read s b.0) b d c) f.block ∙ ap (λ (x : ResultOrBadLine Plain). block_taken x (line ∷ t.0, t.1) d c) (h (line ∷ t.0))

    go : (x : ResultOrBadLine Plain) → draft_and_cursor_after_line x d c ≡ Ok later → Answers r (block_taken (single_line_value (λ y. x) (line ∷ t.0)) (line ∷ t.0, t.1) d c) later.0 later.1
    go (Err k) ok = absurd cc
    go (Ok v) ok =
        subst (λ (p : Reading). r ≡ end_or_bad_line (block_at depth p.1.lines).0 p.1.number → Answers r (block_taken (single_line_value (λ y. Ok v) (line ∷ t.0)) (line ∷ t.0, t.1) d c) p.0 p.1)
        (one (draft_with v d, cursor_after_line c.lines c) later ok) (place_ends depth line v d c f r) is

-- ---- fields

after_null : (r : ResultOrBadLine Plains) (block : Split) (d : DraftState) (c : CursorState) → values_taken r block (draft_with null d) c ≡ values_taken (mapped_or_bad_line_shifted_by 0 (more null) r) block d c
after_null (Ok vs) block d c = refl
after_null (Err k) block d c = let e : c.number + k ≡ c.number + (0 + k) = omega arith in ap bad_at e

pub field_absent : (name : List ℕ) (s : Shape) (fs : Fields) (depth : ℕ) (line : Line) (d : DraftState) (c : CursorState) → Some line ≡ line_of_block (block_at depth c.lines).0 → None ≡ strip_prefix (name ++ codes ":") line
    → values_taken (fields_read fs (block_at depth c.lines).0) (block_at depth c.lines) (draft_with null d) c ≡ values_taken (fields_read (field name s fs) (block_at depth c.lines).0) (block_at depth c.lines) d c
unfolding fields_read
field_absent name s fs depth line d c e absent =
    let f = first_line depth c.lines line e in
    let t = block_at depth f.others in
    let read : fields_read (field name s fs) (line ∷ t.0) ≡ mapped_or_bad_line_shifted_by 0 (more null) (fields_read fs (line ∷ t.0)) = ap (fields_read_by_name_match (mapped_or_bad_line_shifted_by 0 (more null) (fields_read fs (line ∷ t.0))) (named_read s (fields_read fs) t.0)) (sym absent) in
    ap (λ (b : Split). values_taken (fields_read fs b.0) b (draft_with null d) c) f.block
    ∙ after_null (fields_read fs (line ∷ t.0)) (line ∷ t.0, t.1) d c
    ∙ ap (λ (r : ResultOrBadLine Plains). values_taken r (line ∷ t.0, t.1) d c) (sym read)
    ∙ ap (λ (b : Split). values_taken (fields_read (field name s fs) b.0) b d c) (sym f.block)

-- a field that comes next, by what is left of its line
pub field_there : (name : List ℕ) (s : Shape) (fs : Fields) (depth : ℕ) (line value : Line) (c : CursorState) → Some line ≡ line_of_block (block_at depth c.lines).0 → Some value ≡ strip_prefix (name ++ codes ":") line
    → fields_read (field name s fs) (block_at depth c.lines).0 ≡ named_read s (fields_read fs) (drop 1 (block_at depth c.lines).0) value
unfolding fields_read
field_there name s fs depth line value c e there =
    let f = first_line depth c.lines line e in
    let t = block_at depth f.others in
    ap (λ (b : Split). fields_read (field name s fs) b.0) f.block
    ∙ ap (fields_read_by_name_match (mapped_or_bad_line_shifted_by 0 (more null) (fields_read fs (line ∷ t.0))) (named_read s (fields_read fs) t.0)) (sym there)
    ∙ ap (λ (b : Split). named_read s (fields_read fs) (drop 1 b.0) value) (sym f.block)

pub some_first : (ls : List Line) (line : Line) → Some line ≡ line_of_block ls → 0 < length ls
some_first [] line e = absurd cc
some_first (l ∷ ls) line e = omega arith

pub fields_end : (depth : ℕ) (d : DraftState) (c : CursorState) (r : Result (Unit {0}) GenFault) → r ≡ end_or_bad_line (block_at depth c.lines).0 c.number → Answers r (values_taken (fields_read no_fields (block_at depth c.lines).0) (block_at depth c.lines) d c) d c
unfolding fields_read
fields_end depth d c r is = go (block_at depth c.lines).0 (block_at depth c.lines).1 (λ none. ap (λ (b : Split). b.1) (no_block depth c.lines none)) is
  where
    go : (ls rest : List Line) → (None ≡ line_of_block ls → rest ≡ c.lines) → r ≡ end_or_bad_line ls c.number → Answers r (values_taken (fields_read no_fields ls) (ls, rest) d c) d c
    go [] rest same is = subst (λ (r : Result (Unit {0}) GenFault). Answers r (values_taken (Ok none) ([], rest) d c) d c) (sym is) (record { ok = ap (λ (ls : List Line). taken d (cursor_after_block ([], ls) c)) (same refl) ∙ ap (λ (x : CursorState). taken d x) (same_place c); err = tt })
    go (l ∷ ls) rest same is = subst (λ (r : Result (Unit {0}) GenFault). Answers r (bad_at (c.number + 0)) d c) (sym is) (record { ok = tt; err = number_plus_zero c.number })
