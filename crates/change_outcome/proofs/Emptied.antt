-- Nothing waits once the actions of an intent are done.
use Rattle.std.proofs.Common.{◌≡◌, ◌≢◌, ◌⊎◌, inl, inr, ℕ, zero, suc, ◌+◌, ◌<◌, Bool, true, false, cond, List, [], ◌∷◌, length, Option, None, Some, refl, sym, ap, ◌∙◌, arith}
use Rattle.std.specs.Str.{bytes_eq}
use Rattle.std.specs.List.{list_any}
use Rattle.base_core.specs.Files.{Files, drop_name, put_name}
use Rattle.base_core.proofs.AtName.{name_cases, off_name}
use Rattle.journal_core.specs.Recovery.{files_after_actions, files_after_staged_moves_from, is_staged, move_if_present, stage_name, files_without_names}
use Rattle.journal_core.specs.Staged.{files_with_staged}
use Rattle.journal_core.proofs.Acts.{dropped_none}
use Rattle.journal_core.proofs.journal_intent.AtName.{drop_name-at, put_name-off}
use Rattle.journal_core.specs.journal_intent.FreeNames.{AreFreeNames, HasFreeNamesAndUnrepeatedWrites, IsFreeName}
use Rattle.journal_core.specs.journal_intent.IntentValue.{intent_of_lists}

true_false : true ≡ false → ⊥
true_false e = cc

-- the name of one of so many files that wait from number k on
abbrev WaitsAmong : ℕ → ℕ → List ℕ → Type 0
WaitsAmong k n q = (i : ℕ) × (i < n) × (q ≡ stage_name (k + i))

free_off : (q name : List ℕ) → is_staged q ≡ true → IsFreeName name → q ≢ name
free_off q name staged free is = true_false (sym staged ∙ (ap is_staged is ∙ free.unstaged))

-- ---- staged

pub staged_where : (contents : List (List ℕ)) (k : ℕ) (base : Files) (q : List ℕ) → base q ≡ None → (files_with_staged k contents base q ≡ None) ⊎ WaitsAmong k (length contents) q
staged_where [] k base q none = inl none
staged_where (bytes ∷ contents) k base q none =
    by_name (name_cases q (stage_name k)) (staged_where contents (k + 1) (put_name base (stage_name k) bytes) q)
  where
    later : (files_with_staged (k + 1) contents (put_name base (stage_name k) bytes) q ≡ None) ⊎ WaitsAmong (k + 1) (length contents) q
        → (files_with_staged k (bytes ∷ contents) base q ≡ None) ⊎ WaitsAmong k (length (bytes ∷ contents)) q
    later (inl absent) = inl absent
    later (inr (i, less, is)) = inr (suc i, omega (arith, less), is ∙ ap stage_name (omega arith))

    by_name : (q ≡ stage_name k) ⊎ (bytes_eq q (stage_name k) ≡ false)
        → (put_name base (stage_name k) bytes q ≡ None → (files_with_staged (k + 1) contents (put_name base (stage_name k) bytes) q ≡ None) ⊎ WaitsAmong (k + 1) (length contents) q)
        → (files_with_staged k (bytes ∷ contents) base q ≡ None) ⊎ WaitsAmong k (length (bytes ∷ contents)) q
    by_name (inl is) f = inr (0, omega arith, is ∙ ap stage_name (omega arith))
    by_name (inr off) f = later (f (put_name-off base (stage_name k) bytes q (off_name q (stage_name k) off) ∙ none))

-- ---- moved

moved_none : (F : Files) (place name q : List ℕ) (o : Option (List ℕ)) → q ≢ name → F q ≡ None → move_if_present F place name o q ≡ None
moved_none F place name q None off none = none
moved_none F place name q (Some bytes) off none = put_name-off (drop_name F place) name bytes q off ∙ dropped_none F place q none

moved_away : (F : Files) (place name q : List ℕ) (o : Option (List ℕ)) → q ≢ name → q ≡ place → F q ≡ o → move_if_present F place name o q ≡ None
moved_away F place name q None off is at = at
moved_away F place name q (Some bytes) off is at = put_name-off (drop_name F place) name bytes q off ∙ drop_name-at F place q is

pub moves_empty : (names : List (List ℕ)) (k : ℕ) (F : Files) (q : List ℕ) → is_staged q ≡ true → AreFreeNames names → (F q ≡ None) ⊎ WaitsAmong k (length names) q → files_after_staged_moves_from k names F q ≡ None
moves_empty [] k F q staged free (inl none) = none
moves_empty [] k F q staged free (inr (i, less, is)) = absurd (omega (arith, less))
moves_empty (name ∷ names) k F q staged free where_it_is =
    moves_empty names (k + 1) (move_if_present F (stage_name k) name (F (stage_name k))) q staged free.1 (next where_it_is)
  where
    off : q ≢ name
    off = free_off q name staged free.0

    next : (F q ≡ None) ⊎ WaitsAmong k (length (name ∷ names)) q → (move_if_present F (stage_name k) name (F (stage_name k)) q ≡ None) ⊎ WaitsAmong (k + 1) (length names) q
    next (inl none) = inl (moved_none F (stage_name k) name q (F (stage_name k)) off none)
    next (inr (zero, less, is)) = let here : q ≡ stage_name k = is ∙ ap stage_name (omega arith) in inl (moved_away F (stage_name k) name q (F (stage_name k)) off here (ap F here))
    next (inr (suc i, less, is)) = inr (i, omega (arith, less), is ∙ ap stage_name (omega arith))

-- a name below the stage has nothing once all that was staged is moved
pub acted_empty : (removals writes contents : List (List ℕ)) (base : Files) (q : List ℕ) → HasFreeNamesAndUnrepeatedWrites (intent_of_lists removals writes) → length contents ≡ length writes → is_staged q ≡ true → base q ≡ None
    → files_after_actions (intent_of_lists removals writes) (files_with_staged 1 contents base) q ≡ None
acted_empty removals writes contents base q free count staged none =
    moves_empty writes 1 (files_without_names removals (files_with_staged 1 contents base)) q staged free.writes (before (staged_where contents 1 base q none))
  where
    kept : files_with_staged 1 contents base q ≡ None → files_without_names removals (files_with_staged 1 contents base) q ≡ None
    kept absent = by_test (list_any (bytes_eq q) removals)
      where
        by_test : (b : Bool) → cond b None (files_with_staged 1 contents base q) ≡ None
        by_test true = refl
        by_test false = absent

    before : (files_with_staged 1 contents base q ≡ None) ⊎ WaitsAmong 1 (length contents) q → (files_without_names removals (files_with_staged 1 contents base) q ≡ None) ⊎ WaitsAmong 1 (length writes) q
    before (inl absent) = inl (kept absent)
    before (inr (i, less, is)) = inr (i, omega (arith, less, count), is)
