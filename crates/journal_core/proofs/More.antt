-- What holds for some ignored names holds for more of them.
use Rattle.std.proofs.Common.{◌≡◌, inl, inr, ⊎_elim, Bool, true, false, cond, ◌||◌, ℕ, List, Option, None, refl, ap}
use Rattle.base_core.specs.Files.{Files}
use Rattle.base_core.specs.Tree.{TreeState}
use Rattle.journal_core.specs.Quiet.{EachCrashLeavesOld}
use Rattle.journal_core.specs.Recovery.{is_hidden, is_staged, recovered_files, state_of, EachCrashLeavesOldOrNew, EachCrashLeavesStateOf, StateDependsOn}

module _ (few many : List ℕ → Bool) (up : (q : List ℕ) → few q ≡ true → many q ≡ true) where
  smaller : (a b c : Bool) → (b ≡ true → c ≡ true) → (a || c) ≡ false → (a || b) ≡ false
  smaller true b c more is = is
  smaller false true c more is = absurd (let on = more refl in cc)
  smaller false false c more is = refl

  pub rests_fewer : (files : Files) (q : List ℕ) → StateDependsOn many files q → StateDependsOn few files q
  rests_fewer files q (inl intent) = inl intent
  rests_fewer files q (inr (inl shown)) = inr (inl (smaller (is_staged q) (few q) (many q) (up q) shown))
  rests_fewer files q (inr (inr place)) = inr (inr place)

  hidden_more : (q : List ℕ) → is_hidden many q ≡ false → is_hidden few q ≡ false
  hidden_more q = smaller (is_staged q) (few q) (many q) (up q)

  shown_same : (a b : Bool) (f g : Option (List ℕ)) → (a ≡ false → b ≡ false) → cond b None f ≡ cond b None g → cond a None f ≡ cond a None g
  shown_same true b f g less same = refl
  shown_same false true f g less same = absurd (let off = less refl in cc)
  shown_same false false f g less same = same

  pub states_same : (F G : Files) → state_of few F ≡ state_of few G → state_of many F ≡ state_of many G
  states_same F G same i q = shown_same (is_hidden many q) (is_hidden few q) (recovered_files F q) (recovered_files G q) (hidden_more q) (ap (λ (state : Files). state q) same) i

  pub quiet_more : (start v : TreeState) → EachCrashLeavesOld few start v → EachCrashLeavesOld many start v
  quiet_more start v quiet image is = let was = quiet image is in (was.0, was.1, states_same image was.0 was.2)

  pub settled_more : (files : Files) (v : TreeState) → EachCrashLeavesStateOf few files v → EachCrashLeavesStateOf many files v
  settled_more files v settled image is = states_same image files (settled image is)

  pub old_or_new_more : (start : TreeState) (files : Files) (v : TreeState) → EachCrashLeavesOldOrNew few start files v → EachCrashLeavesOldOrNew many start files v
  old_or_new_more start files v either image is =
      ⊎_elim (λ was. inl (was.0, was.1, states_same image was.0 was.2)) (λ now. inr (states_same image files now)) (either image is)
