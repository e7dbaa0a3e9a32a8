-- Blocks of lines at a depth, and blocks in them.
use Rattle.std.proofs.Common.{◌≡◌, ◌≢◌, ℕ, zero, suc, ◌+◌, ◌<◌, ◌≤◌, List, [], ◌∷◌, ◌++◌, length, drop, Option, Some, None, refl, sym, ap, ◌∙◌, append_assoc, arith}
use Rattle.std.specs.Prelude.{codes}
use Rattle.adb_dump.specs.Dump.{Line}
use Rattle.adb_dump.specs.Margin.{margin}
use Rattle.adb_dump.specs.ReadBack.{strip_prefix, end_block_or_add_line, block_and_lines_after, with_line_before_block}
use Rattle.gen_core.specs.Cursors.{CursorState, cursor_after_block, cursor_after_line, cursor_at_entry, block_at, cursor_from_parts, line_of_block, margin_levels_after_block}
use Rattle.gen_core.proofs.TextLines.{levels_read, margin-sum, two_some, two_none}

-- a block and the lines after it
abbrev pub Split : Type 0
Split = List Line × List Line

pub first_of_block : (depth : ℕ) (l : Line) (ls : List Line) → line_of_block (block_at depth (l ∷ ls)).0 ≡ strip_prefix (margin depth) l
first_of_block depth l ls = go (strip_prefix (margin depth) l)
  where
    go : (o : Option Line) → line_of_block (end_block_or_add_line l ls o (block_at depth ls)).0 ≡ o
    go None = refl
    go (Some inner) = refl

-- at depth 0 all lines are the block
pub all_lines : (ls : List Line) → block_at 0 ls ≡ (ls, [])
all_lines [] = refl
all_lines (l ∷ ls) = ap (λ (b : Split). with_line_before_block l b) (all_lines ls)

-- ---- a block has no line, or a first one

pub no_block : (depth : ℕ) (ls : List Line) → None ≡ line_of_block (block_at depth ls).0 → block_at depth ls ≡ ([], ls)
no_block depth [] e = refl
no_block depth (l ∷ ls) e = go (strip_prefix (margin depth) l) e
  where
    go : (o : Option Line) → None ≡ line_of_block (end_block_or_add_line l ls o (block_at depth ls)).0 → end_block_or_add_line l ls o (block_at depth ls) ≡ ([], l ∷ ls)
    go None e = refl
    go (Some inner) e = absurd cc

-- the first line of a block, and the others
pub record FirstLine (depth : ℕ) (ls : List Line) (line : Line) : Type 0 where
  -- the line with its spaces
  pub whole : Line
  -- the lines after it
  pub others : List Line
  pub lines : ls ≡ whole ∷ others
  pub stripped : strip_prefix (margin depth) whole ≡ Some line
  -- the block begins with it
  pub block : block_at depth ls ≡ (line ∷ (block_at depth others).0, (block_at depth others).1)

pub first_line : (depth : ℕ) (ls : List Line) (line : Line) → Some line ≡ line_of_block (block_at depth ls).0 → FirstLine depth ls line
first_line depth [] line e = absurd cc
first_line depth (l ∷ ls) line e =
    let is : strip_prefix (margin depth) l ≡ Some line = sym (e ∙ first_of_block depth l ls) in
    record { whole = l; others = ls; lines = refl; stripped = is; block = ap (λ (o : Option Line). end_block_or_add_line l ls o (block_at depth ls)) is }

-- ---- the block one level deeper

deeper : (depth : ℕ) → margin (depth + 1) ≡ margin depth ++ codes "  "
deeper depth = margin-sum depth 1

-- the lines in front that are indented one level more, by the block that they are in
pub record Inner (depth : ℕ) (ls : List Line) : Type 0 where
  pub front : (block_at (depth + 1) ls).0 ≡ (block_and_lines_after (block_at depth ls).0).0
  pub later : block_at depth (block_at (depth + 1) ls).1 ≡ ((block_and_lines_after (block_at depth ls).0).1, (block_at depth ls).1)

-- with one line more, by what it is without its levels, and without one level more
abbrev InnerHere : ℕ → Line → List Line → Option Line → Option Line → Type 0
InnerHere depth l ls o p =
    ((end_block_or_add_line l ls p (block_at (depth + 1) ls)).0 ≡ (block_and_lines_after (end_block_or_add_line l ls o (block_at depth ls)).0).0)
    × (block_at depth (end_block_or_add_line l ls p (block_at (depth + 1) ls)).1 ≡ ((block_and_lines_after (end_block_or_add_line l ls o (block_at depth ls)).0).1, (end_block_or_add_line l ls o (block_at depth ls)).1))

inner_line : (depth : ℕ) (l : Line) (ls : List Line) (m : Line) (p : Option Line) → strip_prefix (margin depth) l ≡ Some m → strip_prefix (codes "  ") m ≡ p → Inner depth ls → InnerHere depth l ls (Some m) p
inner_line depth l ls m None e f h = (rw f refl, ap (λ (o : Option Line). end_block_or_add_line l ls o (block_at depth ls)) e ∙ rw f refl)
inner_line depth l ls m (Some k) e f h = (rw f (ap (λ (x : List Line). k ∷ x) h.front), h.later ∙ rw f refl)

pub inner_block : (depth : ℕ) (ls : List Line) → Inner depth ls
inner_block depth [] = record { front = refl; later = refl }
inner_block depth (l ∷ ls) = outer (strip_prefix (margin depth) l) refl (inner_block depth ls)
  where
    outer : (o : Option Line) → strip_prefix (margin depth) l ≡ o → Inner depth ls → Inner depth (l ∷ ls)
    outer None e h =
        let f : strip_prefix (margin (depth + 1)) l ≡ None = ap (λ (x : List ℕ). strip_prefix x l) (deeper depth) ∙ two_none (margin depth) (codes "  ") l e in
        record { front = rw (e, f) refl; later = rw (e, f) (rw e refl) }
    outer (Some m) e h =
        let f : strip_prefix (margin (depth + 1)) l ≡ strip_prefix (codes "  ") m = ap (λ (x : List ℕ). strip_prefix x l) (deeper depth) ∙ two_some (margin depth) (codes "  ") l m e in
        let r = inner_line depth l ls m (strip_prefix (codes "  ") m) e refl h in
        record { front = rw (e, f) r.0; later = rw (e, f) r.1 }
