-- Behind all actions nothing waits.
use Rattle.std.proofs.Common.{◌≡◌, ◌≢◌, ◌⊎◌, inl, inr, ⊎_elim, ℕ, ◌+◌, ◌≤◌, ◌<◌, Bool, true, false, cond, List, ◌∷◌, [], length, Option, None, Some, refl, sym, ap, ◌∙◌, arith, eq-or-lt_of_le}
use Rattle.std.specs.List.{list_any}
use Rattle.std.specs.Str.{bytes_eq}
use Rattle.base_core.specs.Files.{Files, drop_name, put_name}
use Rattle.base_core.proofs.AtName.{name_cases, off_name}
use Rattle.journal_core.specs.Recovery.{Intent, files_after_actions, files_after_staged_moves_from, is_staged, move_if_present, stage_name, files_without_names}
use Rattle.journal_core.specs.Staged.{HasNoStagedNames, files_with_staged}
use Rattle.journal_core.proofs.Replayed.{move_if_present-off}
use Rattle.journal_core.proofs.journal_intent.AtName.{drop_name-at, put_name-off}
use Rattle.journal_core.specs.journal_intent.FreeNames.{AreFreeNames, HasFreeNamesAndUnrepeatedWrites}
use Rattle.journal_commit.proofs.Waits.{shown_off}

-- nothing is there under the name, or it is that of a file that waits, among so many from a number on
abbrev AtPlace : List ℕ → Files → ℕ → ℕ → Type 0
AtPlace q F from until = (F q ≡ None) ⊎ ((k : ℕ) × (from ≤ k) × (k < until) × (q ≡ stage_name k))

-- ---- what is staged

staged_at : (q : List ℕ) (contents : List (List ℕ)) (k : ℕ) (F : Files) → 1 ≤ k → AtPlace q F 1 k → AtPlace q (files_with_staged k contents F) 1 (k + length contents)
staged_at q [] k F first (inl none) = inl none
staged_at q [] k F first (inr (j, from, until, is)) = inr (j, from, omega (arith, until), is)
staged_at q (b ∷ bs) k F first at = more (staged_at q bs (k + 1) (put_name F (stage_name k) b) (omega (arith, first)) (next at (name_cases q (stage_name k))))
  where
    next : AtPlace q F 1 k → (q ≡ stage_name k) ⊎ (bytes_eq q (stage_name k) ≡ false) → AtPlace q (put_name F (stage_name k) b) 1 (k + 1)
    next at (inl is) = inr (k, first, omega arith, is)
    next (inl none) (inr off) = inl (put_name-off F (stage_name k) b q (off_name q (stage_name k) off) ∙ none)
    next (inr (j, from, until, is)) (inr off) = inr (j, from, omega (arith, until), is)

    more : AtPlace q (files_with_staged (k + 1) bs (put_name F (stage_name k) b)) 1 (k + 1 + length bs) → AtPlace q (files_with_staged k (b ∷ bs) F) 1 (k + length (b ∷ bs))
    more (inl none) = inl none
    more (inr (j, from, until, is)) = inr (j, from, omega (arith, until), is)

-- ---- what is moved

moved_at : (F : Files) (a b q : List ℕ) (o : Option (List ℕ)) → F a ≡ o → q ≡ a → q ≢ b → move_if_present F a b o q ≡ None
moved_at F a b q None none is off = ap F is ∙ none
moved_at F a b q (Some x) some is off = put_name-off (drop_name F a) b x q off ∙ drop_name-at F a q is

moves_empty : (q : List ℕ) → is_staged q ≡ true → (names : List (List ℕ)) (k : ℕ) (F : Files) → AreFreeNames names → AtPlace q F k (k + length names) → files_after_staged_moves_from k names F q ≡ None
moves_empty q waits [] k F free (inl none) = none
moves_empty q waits [] k F free (inr (j, from, until, is)) = absurd (omega (arith, from, until))
moves_empty q waits (name ∷ names) k F free at =
    moves_empty q waits names (k + 1) (move_if_present F (stage_name k) name (F (stage_name k))) free.1 (next at (name_cases q (stage_name k)))
  where
    off_name_is : q ≢ name
    off_name_is e = shown_off q name waits free.0.unstaged (sym e)

    next : AtPlace q F k (k + length (name ∷ names)) → (q ≡ stage_name k) ⊎ (bytes_eq q (stage_name k) ≡ false) → AtPlace q (move_if_present F (stage_name k) name (F (stage_name k))) (k + 1) (k + 1 + length names)
    next at (inl is) = inl (moved_at F (stage_name k) name q (F (stage_name k)) refl is off_name_is)
    next (inl none) (inr off) = inl (move_if_present-off F (stage_name k) name (F (stage_name k)) q (off_name q (stage_name k) off) off_name_is ∙ none)
    next (inr (j, from, until, is)) (inr off) = ⊎_elim
        (λ same. absurd (off_name q (stage_name k) off (is ∙ ap stage_name (sym same))))
        (λ below. inr (j, omega (arith, below), omega (arith, until), is))
        (split from)
      where
        split : k ≤ j → (k ≡ j) ⊎ (k < j)
        split le = eq-or-lt_of_le le

none_or : (b : Bool) (o : Option (List ℕ)) → o ≡ None → cond b None o ≡ None
none_or true o none = refl
none_or false o none = none

without_at : (q : List ℕ) (names : List (List ℕ)) (F : Files) (from until : ℕ) → AtPlace q F from until → AtPlace q (files_without_names names F) from until
without_at q names F from until (inl none) = inl (none_or (list_any (bytes_eq q) names) (F q) none)
without_at q names F from until (inr at) = inr at

pub change_empties : (intent : Intent) (contents : List (List ℕ)) (files : Files) → HasFreeNamesAndUnrepeatedWrites intent → length contents ≡ length intent.writes → HasNoStagedNames files → HasNoStagedNames (files_after_actions intent (files_with_staged 1 contents files))
change_empties intent contents files free same empty q waits =
    moves_empty q waits intent.writes 1 (files_without_names intent.removals (files_with_staged 1 contents files)) free.writes
    (without_at q intent.removals (files_with_staged 1 contents files) 1 (1 + length intent.writes) (as_many (staged_at q contents 1 files (omega arith) (inl (empty q waits)))))
  where
    as_many : AtPlace q (files_with_staged 1 contents files) 1 (1 + length contents) → AtPlace q (files_with_staged 1 contents files) 1 (1 + length intent.writes)
    as_many (inl none) = inl none
    as_many (inr (j, from, until, is)) = inr (j, from, omega (arith, until, same), is)
