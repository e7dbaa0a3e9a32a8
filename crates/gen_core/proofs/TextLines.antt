-- Prefixes of lines, and the lines of a text.
use Rattle.std.proofs.Common.{◌≡◌, ◌≢◌, ℕ, zero, suc, ◌+◌, ◌-◌, ◌<◌, ◌≤◌, Bool, true, false, cond, eqb, List, [], ◌∷◌, ◌++◌, length, get_or, take, drop, Option, Some, None, refl, sym, ap, subst, ◌∙◌, append_assoc, arith, ◌⊎◌, eq-eqb}
use Rattle.std.specs.Prelude.{codes, not, slice_get}
use Rattle.std.proofs.lemmas.Bool.{eqb-true, ne_eqb}
use Rattle.std.proofs.lemmas.List.{drop_more}
use Rattle.adb_dump.specs.Dump.{Line, ends_with_byte}
use Rattle.adb_dump.specs.Margin.{margin}
use Rattle.adb_dump.specs.ReadBack.{strip_prefix}
use Rattle.memchr.specs.Find.{IsFirstByte, is_byte}
use Rattle.adb_dump.proofs.adb_schema.Below.{eqb-sym}
use Rattle.adb_dump.proofs.Pieces.{ends_some, ends_none}
use Rattle.adb_dump.proofs.ReadOnly.{strip_prefix_some}
use Rattle.adb_dump.proofs.ValueBack.{strip_prefix-append}
use Rattle.gen_core.specs.Generated.{TextLines, lines_with_byte_in_front, lines_with_nonend_byte_in_front, whole_lines_and_rest}
use Rattle.gen_core.specs.Reads.{has_rest}

-- ---- prefixes

pub stripped_some : (p l r : List ℕ) → l ≡ p ++ r → Some r ≡ strip_prefix p l
stripped_some p l r is = sym (ap (strip_prefix p) is ∙ strip_prefix-append p r)

pub stripped_none : (p l : List ℕ) → ((r : List ℕ) → l ≢ p ++ r) → None ≡ strip_prefix p l
stripped_none p l other = go (strip_prefix p l) refl
  where
    go : (o : Option (List ℕ)) → strip_prefix p l ≡ o → None ≡ o
    go None e = refl
    go (Some r) e = absurd (other r (strip_prefix_some p l r e))

-- a line that ends within a prefix
pub prefix_left : (p l rest : List ℕ) (i : ℕ) → i < length p → length rest ≡ 0 → strip_prefix (drop i p) rest ≡ strip_prefix p l → None ≡ strip_prefix p l
prefix_left p l [] i lt over e = ap (λ (x : List ℕ). strip_prefix x []) (sym (drop_more p i 0 lt)) ∙ e
prefix_left p l (c ∷ cs) i lt over e = absurd (omega (arith, over))

-- a prefix after another
pub then_stripped : List ℕ → Option (List ℕ) → Option (List ℕ)
then_stripped q None = None
then_stripped q (Some l) = strip_prefix q l

pub strip_prefix-two : (p q l : List ℕ) → strip_prefix (p ++ q) l ≡ then_stripped q (strip_prefix p l)
unfolding then_stripped
strip_prefix-two [] q l = refl
strip_prefix-two (c ∷ cs) q [] = refl
strip_prefix-two (c ∷ cs) q (d ∷ ds) = go (eqb c d) (strip_prefix-two cs q ds)
  where
    go : (b : Bool) → strip_prefix (cs ++ q) ds ≡ then_stripped q (strip_prefix cs ds) → cond b (strip_prefix (cs ++ q) ds) None ≡ then_stripped q (cond b (strip_prefix cs ds) None)
    go true h = h
    go false h = refl

pub two_some : (p q l m : List ℕ) → strip_prefix p l ≡ Some m → strip_prefix (p ++ q) l ≡ strip_prefix q m
unfolding then_stripped
two_some p q l m e = strip_prefix-two p q l ∙ ap (then_stripped q) e

pub two_none : (p q l : List ℕ) → strip_prefix p l ≡ None → strip_prefix (p ++ q) l ≡ None
unfolding then_stripped
two_none p q l e = strip_prefix-two p q l ∙ ap (then_stripped q) e

-- ---- margins

pub margin-sum : (m n : ℕ) → margin (m + n) ≡ margin m ++ margin n
margin-sum zero n = let e : 0 + n ≡ n = omega arith in ap margin e
margin-sum (suc m) n = let e : suc m + n ≡ suc (m + n) = omega arith in ap margin e ∙ ap (λ (x : List ℕ). codes "  " ++ x) (margin-sum m n)

-- a line of which some levels were read
pub levels_read : (levels depth : ℕ) (l : Line) → levels ≤ depth → strip_prefix (margin depth) (margin levels ++ l) ≡ strip_prefix (margin (depth - levels)) l
levels_read levels depth l le =
    let e : depth ≡ levels + (depth - levels) = omega (arith, le) in
    ap (λ (n : ℕ). strip_prefix (margin n) (margin levels ++ l)) e
    ∙ ap (λ (x : List ℕ). strip_prefix x (margin levels ++ l)) (margin-sum levels (depth - levels))
    ∙ two_some (margin levels) (margin (depth - levels)) (margin levels ++ l) l (strip_prefix-append (margin levels) l)

pub level_some : (levels i : ℕ) (l m : Line) → i < levels → Some m ≡ strip_prefix (codes "  ") l → strip_prefix (margin (levels - i)) l ≡ strip_prefix (margin (levels - (i + 1))) m
level_some levels i l m lt e =
    let same : levels - i ≡ suc (levels - (i + 1)) = omega (arith, lt) in
    ap (λ (n : ℕ). strip_prefix (margin n) l) same ∙ two_some (codes "  ") (margin (levels - (i + 1))) l m (sym e)

pub level_none : (levels i : ℕ) (l : Line) → i < levels → None ≡ strip_prefix (codes "  ") l → strip_prefix (margin (levels - i)) l ≡ None
level_none levels i l lt e =
    let same : levels - i ≡ suc (levels - (i + 1)) = omega (arith, lt) in
    ap (λ (n : ℕ). strip_prefix (margin n) l) same ∙ two_none (codes "  ") (margin (levels - (i + 1))) l (sym e)

pub levels_over : (levels i : ℕ) (l : Line) → levels ≤ i → strip_prefix (margin (levels - i)) l ≡ Some l
levels_over levels i l le = let same : levels - i ≡ 0 = omega (arith, le) in ap (λ (n : ℕ). strip_prefix (margin n) l) same

-- ---- lines of a text

pub line_found : (t : List ℕ) (k : ℕ) → k < length t → get_or t k 0 ≡ 10 → ((q : ℕ) → q < k → get_or t q 0 ≢ 10) → (whole_lines_and_rest t).0 ≡ take k t ∷ (whole_lines_and_rest (drop (k + 1) t)).0
line_found [] k lt is before = absurd (omega arith)
line_found (c ∷ cs) zero lt is before = let t : eqb c 10 ≡ true = eq-eqb c 10 is in rw t refl
line_found (c ∷ cs) (suc k) lt is before =
    let f : eqb c 10 ≡ false = ne_eqb c 10 (before 0 (omega arith)) in
    let more = line_found cs k (omega arith) is (λ q lt. before (suc q) (omega arith)) in
    let e : suc k + 1 ≡ suc (k + 1) = omega arith in
    rw (f, e, more) refl

pub no_line_found : (t : List ℕ) → ((q : ℕ) → q < length t → get_or t q 0 ≢ 10) → (whole_lines_and_rest t).0 ≡ []
no_line_found [] before = refl
no_line_found (c ∷ cs) before =
    let f : eqb c 10 ≡ false = ne_eqb c 10 (before 0 (omega arith)) in
    let more = no_line_found cs (λ q lt. before (suc q) (omega arith)) in
    rw (f, more) refl

-- ---- what is after the last line end

pub all_rest : (t : List ℕ) → (whole_lines_and_rest t).0 ≡ [] → (whole_lines_and_rest t).1 ≡ t
all_rest [] e = refl
all_rest (c ∷ cs) e = go (eqb c 10) (whole_lines_and_rest cs).0 (whole_lines_and_rest cs).1 (all_rest cs) e
  where
    first : (ls : List Line) (rest : List ℕ) → (ls ≡ [] → rest ≡ cs) → (lines_with_nonend_byte_in_front c ls rest).0 ≡ [] → (lines_with_nonend_byte_in_front c ls rest).1 ≡ c ∷ cs
    first [] rest h e = ap (λ (x : List ℕ). c ∷ x) (h refl)
    first (l ∷ ls) rest h e = absurd cc

    go : (b : Bool) (ls : List Line) (rest : List ℕ) → (ls ≡ [] → rest ≡ cs) → (cond {A = TextLines} b ([] ∷ ls, rest) (lines_with_nonend_byte_in_front c ls rest)).0 ≡ [] → (cond {A = TextLines} b ([] ∷ ls, rest) (lines_with_nonend_byte_in_front c ls rest)).1 ≡ c ∷ cs
    go true ls rest h e = absurd cc
    go false ls rest h e = first ls rest h e

rest_same : (c : ℕ) (ls : List Line) (rest : List ℕ) → (ls ≡ [] → has_rest rest ≡ true) → has_rest (lines_with_byte_in_front c (ls, rest)).1 ≡ has_rest rest
rest_same c ls rest h = go (eqb c 10) ls h
  where
    go : (b : Bool) (ls : List Line) → (ls ≡ [] → has_rest rest ≡ true) → has_rest (cond {A = TextLines} b ([] ∷ ls, rest) (lines_with_nonend_byte_in_front c ls rest)).1 ≡ has_rest rest
    go true ls h = refl
    go false [] h = sym (h refl)
    go false (l ∷ ls) h = refl

pub rest_by_end : (c : ℕ) (cs : List ℕ) → has_rest (whole_lines_and_rest (c ∷ cs)).1 ≡ not (ends_with_byte 10 (c ∷ cs))
rest_by_end c [] = go (eqb c 10) refl
  where
    go : (b : Bool) → eqb c 10 ≡ b → has_rest (cond {A = TextLines} b ([] ∷ [], []) ([], c ∷ [])).1 ≡ not (eqb 10 c)
    go true e = let is : c ≡ 10 = eqb-true c 10 e in rw is refl
    go false e = let f : eqb 10 c ≡ false = ne_eqb 10 c (λ is. let t : eqb c 10 ≡ true = eq-eqb c 10 (sym is) in absurd cc) in rw f refl
rest_by_end c (d ∷ ds) =
    rest_same c (whole_lines_and_rest (d ∷ ds)).0 (whole_lines_and_rest (d ∷ ds)).1 (λ none. ap has_rest (all_rest (d ∷ ds) none)) ∙ rest_by_end d ds

pub rest_some : (x : ℕ) (t : List ℕ) → slice_get t (length t - 1) ≡ Some x → not (eqb x 10) ≡ has_rest (whole_lines_and_rest t).1
rest_some x [] e = absurd cc
rest_some x (c ∷ cs) e = ap not (eqb-sym x 10 ∙ sym (ends_some 10 x (c ∷ cs) e)) ∙ sym (rest_by_end c cs)

-- ---- lines that a search found

pub line_at : (t : List ℕ) (k : ℕ) → IsFirstByte (is_byte 10) t (Some k) → (whole_lines_and_rest t).0 ≡ take k t ∷ (whole_lines_and_rest (drop (k + 1) t)).0
line_at t k found =
    line_found t k found.0.high (eqb-true _ _ found.1) (λ q lt is. found.0.before q (omega arith) lt (eq-eqb _ _ is))

pub no_line : (t : List ℕ) → IsFirstByte (is_byte 10) t None → (whole_lines_and_rest t).0 ≡ []
no_line t nowhere = no_line_found t (λ q lt is. nowhere q (omega arith) lt (eq-eqb _ _ is))
