-- The maps of names that numbers pick, by the changes that are undone.
use Rattle.std.proofs.Common.{◌≡◌, ◌≢◌, ◌⊎◌, inl, inr, ⊎_elim, ℕ, zero, suc, ◌+◌, ◌-◌, ◌*◌, ◌/◌, ◌%◌, ◌^◌, min, ◌<◌, ◌≤◌, ◌==◌, leb, Bool, true, false, cond, List, [], ◌∷◌, length, Option, None, Some, refl, sym, ap, subst, ◌∙◌, arith}
use Rattle.std.proofs.lemmas.Bool.{le-leb, lt-leb}
use Rattle.base_core.specs.Files.{NameMap, no_names}
use Rattle.base_core.specs.Tree.{TreeState}
use Rattle.base_core.specs.Undone.{CrashOfMapsMayLeaveMap, IsCrashMap, with_change_replayed}
use Rattle.base_core.proofs.Undone.{change_off, change_whole}
use Rattle.tree_memory.specs.Images.{maps_newest_first, most_changes_with_all_subsets, is_bit_set_at, is_change_undone, map_without, picked_crash_map, crash_map_pick_count_of}

-- ---- what is left is a map that a crash may leave

without_left : (undone : ℕ → Bool) (new : NameMap) (older : List NameMap) → CrashOfMapsMayLeaveMap new older (map_without undone new older)
without_left undone new [] = refl
without_left undone new (old ∷ older) = by (undone (length older)) (without_left undone old older)
  where
    by : (b : Bool) → CrashOfMapsMayLeaveMap old older (map_without undone old older) → CrashOfMapsMayLeaveMap new (old ∷ older) (cond b (map_without undone old older) (with_change_replayed old new (map_without undone old older)))
    by true left = inr left
    by false left = inl (map_without undone old older, left, refl)

pub picked_left : (pick : ℕ) (v : TreeState) → IsCrashMap v (picked_crash_map pick v)
picked_left pick v = without_left (is_change_undone (length v.older) pick) v.names v.older

-- ---- one change more

abbrev newest : List NameMap → NameMap
newest [] = no_names
newest (m ∷ ms) = m

abbrev behind : List NameMap → List NameMap
behind [] = []
behind (m ∷ ms) = ms

module _ (undone : ℕ → Bool) (v w : TreeState) (before after : NameMap) (so_far : (q : List ℕ) → before q ≡ map_without undone v.names v.older q)
    (now : (q : List ℕ) → after q ≡ cond (undone (length v.older)) (before q) (with_change_replayed v.names w.names before q)) where
  same_before : before ≡ map_without undone v.names v.older
  same_before = λ i q. so_far q i

  either_way : (b : Bool) (q : List ℕ) (o : Option ℕ) → o ≡ before q → cond b (before q) o ≡ before q
  either_way true q o is = refl
  either_way false q o is = is

  unchanged : w.names ≡ v.names → (q : List ℕ) → after q ≡ before q
  unchanged same q = now q ∙ either_way (undone (length v.older)) q (with_change_replayed v.names w.names before q) (change_off v.names w.names before q (ap (λ (m : NameMap). m q) (sym same)))

  at_name : (b : Bool) (one other : NameMap) (q : List ℕ) → cond b (one q) (other q) ≡ cond b one other q
  at_name true one other q = refl
  at_name false one other q = refl

  pub without_step : (maps_newest_first w ≡ maps_newest_first v) ⊎ (w.older ≡ maps_newest_first v) → (q : List ℕ) → after q ≡ map_without undone w.names w.older q
  without_step (inl same) q =
      let names : w.names ≡ v.names = ap newest same in
      let older : w.older ≡ v.older = ap behind same in
      unchanged names q ∙ so_far q ∙ (λ i. map_without undone (sym names i) (sym older i) q)
  without_step (inr more) q =
      now q
      ∙ (λ i. cond (undone (length v.older)) (same_before i q) (with_change_replayed v.names w.names (same_before i) q))
      ∙ at_name (undone (length v.older)) (map_without undone v.names v.older) (with_change_replayed v.names w.names (map_without undone v.names v.older)) q
      ∙ (λ i. map_without undone w.names (sym more i) q)

-- with one map there is nothing to undo
pub without_none : (undone : ℕ → Bool) (v : TreeState) → v.older ≡ [] → (q : List ℕ) → map_without undone v.names v.older q ≡ v.names q
without_none undone v none q = ap (λ (older : List NameMap). map_without undone v.names older q) none

-- ---- each map of few changes

agree : (f g : ℕ → Bool) (new : NameMap) (older : List NameMap) → ((j : ℕ) → j < length older → f j ≡ g j) → map_without f new older ≡ map_without g new older
agree f g new [] same = refl
agree f g new (old ∷ older) same =
    let rest = agree f g old older (λ j below. same j (omega (arith, below))) in
    λ i. cond (same (length older) (omega arith) i) (rest i) (with_change_replayed old new (rest i))

abbrev by_digits : ℕ → ℕ → ℕ → Bool
by_digits changes n j = is_bit_set_at n (changes - j - 1)

abbrev IsPickedBy : NameMap → List NameMap → NameMap → ℕ → Type 0
IsPickedBy new older map n = (n < 2 ^ length older) × (map_without (by_digits (length older) n) new older ≡ map)

module _ (old new : NameMap) (older : List NameMap) (n more : ℕ) (half : more / 2 ≡ n) where
  digit_on : (j : ℕ) → j < length older → by_digits (suc (length older)) more j ≡ by_digits (length older) n j
  digit_on j below =
      let place : suc (length older) - j - 1 ≡ suc (length older - j - 1) = omega (arith, below) in
      ap (is_bit_set_at more) place ∙ ap (λ k. is_bit_set_at k (length older - j - 1)) half

  pub digit_more : (b : Bool) → (more % 2 == 1) ≡ b → map_without (by_digits (suc (length older)) more) new (old ∷ older)
      ≡ cond b (map_without (by_digits (length older) n) old older) (with_change_replayed old new (map_without (by_digits (length older) n) old older))
  digit_more b last =
      let place : suc (length older) - length older - 1 ≡ 0 = omega arith in
      let rest = agree (by_digits (suc (length older)) more) (by_digits (length older) n) old older digit_on in
      λ i. cond ((ap (is_bit_set_at more) place ∙ last) i) (rest i) (with_change_replayed old new (rest i))

twice : (m : ℕ) → 2 ^ suc m ≡ 2 ^ m + 2 ^ m
twice m = omega arith

digits : (new : NameMap) (older : List NameMap) (map : NameMap) → CrashOfMapsMayLeaveMap new older map → (n : ℕ) × IsPickedBy new older map n
digits new [] map is = (0, (omega arith, sym is))
digits new (old ∷ older) map (inl (kept, left, is)) =
    let (n, (below, same)) = digits old older kept left in
    let half : (n + n) / 2 ≡ n = omega arith in
    let last : (n + n) % 2 ≡ 0 = omega arith in
    (n + n, (omega (arith, below, twice (length older)), digit_more old new older n (n + n) half false (ap (λ r. r == 1) last) ∙ ap (with_change_replayed old new) same ∙ sym is))
digits new (old ∷ older) map (inr left) =
    let (n, (below, same)) = digits old older map left in
    let half : (n + n + 1) / 2 ≡ n = omega arith in
    let last : (n + n + 1) % 2 ≡ 1 = omega arith in
    (n + n + 1, (omega (arith, below, twice (length older)), digit_more old new older n (n + n + 1) half true (ap (λ r. r == 1) last) ∙ same))

pub each_picked : (v : TreeState) (map : NameMap) → length v.older ≤ most_changes_with_all_subsets → IsCrashMap v map → (pick : ℕ) × (pick < crash_map_pick_count_of v) × (picked_crash_map pick v ≡ map)
each_picked v map few left =
    let (n, (below, same)) = digits v.names v.older map left in
    let is_few : leb (length v.older) most_changes_with_all_subsets ≡ true = le-leb (length v.older) most_changes_with_all_subsets few in (
      n,
      subst (λ (b : Bool). n < cond b (2 ^ length v.older) (min (length v.older * 2 + 1) (2 ^ 64 - 1))) (sym is_few) below,
      agree (is_change_undone (length v.older) n) (by_digits (length v.older) n) v.names v.older (λ j within. ap (λ (b : Bool). cond b (by_digits (length v.older) n j) (cond (leb n (length v.older)) (leb (length v.older - n) j) (n - length v.older - 1 == j))) is_few) ∙ same,
    )

-- ---- nothing undone

none_undone : (f : ℕ → Bool) (new : NameMap) (older : List NameMap) → ((j : ℕ) → j < length older → f j ≡ false) → map_without f new older ≡ new
none_undone f new [] none = refl
none_undone f new (old ∷ older) none =
    let rest = none_undone f old older (λ j below. none j (omega (arith, below))) in
    (λ i. cond (none (length older) (omega arith) i) (rest i) (with_change_replayed old new (rest i)))
    ∙ change_whole old new

no_digit : (place : ℕ) → is_bit_set_at 0 place ≡ false
no_digit zero = refl
no_digit (suc place) = no_digit place

pub as_read_by_0 : (v : TreeState) → picked_crash_map 0 v ≡ v.names
as_read_by_0 v = none_undone (is_change_undone (length v.older) 0) v.names v.older each
  where
    by : (b : Bool) (j : ℕ) → j < length v.older → cond b (is_bit_set_at 0 (length v.older - j - 1)) (cond (leb 0 (length v.older)) (leb (length v.older - 0) j) (0 - length v.older - 1 == j)) ≡ false
    by true j below = no_digit (length v.older - j - 1)
    by false j below =
        ap (λ (b : Bool). cond b (leb (length v.older - 0) j) (0 - length v.older - 1 == j)) (le-leb 0 (length v.older) (omega arith))
        ∙ lt-leb (length v.older - 0) j (omega (arith, below))

    each : (j : ℕ) → j < length v.older → is_change_undone (length v.older) 0 j ≡ false
    each j below = by (leb (length v.older) most_changes_with_all_subsets) j below

-- ---- a digit

pub digit_here : (n place : ℕ) → place ≡ 0 → is_bit_set_at n place ≡ (n % 2 == 1)
digit_here n place is = ap (is_bit_set_at n) is

pub digit_behind : (n place : ℕ) → 0 < place → is_bit_set_at (n / 2) (place - 1) ≡ is_bit_set_at n place
digit_behind n place some = let more : suc (place - 1) ≡ place = omega (arith, some) in ap (is_bit_set_at n) more
