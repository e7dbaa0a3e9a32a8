-- What the actions of an intent make of each name.
use Rattle.std.proofs.Common.{◌≡◌, ◌≢◌, ◌||◌, ⊎_elim, ℕ, zero, suc, ◌+◌, ◌<◌, ◌^◌, Bool, true, false, cond, List, [], ◌∷◌, length, slice_get, None, Some, refl, sym, ap, subst, ◌∙◌, arith}
use Rattle.std.specs.List.{list_any}
use Rattle.std.specs.Str.{bytes_eq}
use Rattle.base_core.specs.Files.{Files, drop_name, put_name}
use Rattle.base_core.proofs.Booleans.{neither_first, neither_second}
use Rattle.base_core.proofs.AtName.{name_cases, off_name}
use Rattle.journal_core.specs.Recovery.{Intent, files_after_actions, files_after_staged_moves_from, is_hidden, is_staged, move_if_present, recovered_files, stage_name, state_of, files_without_names}
use Rattle.journal_core.specs.Staged.{files_with_staged}
use Rattle.journal_core.proofs.Replayed.{move_if_present-off, place_not_among}
use Rattle.journal_intent.proofs.AtName.{put_name-at, put_name-off}
use Rattle.journal_intent.proofs.StageNames.{stage_names_apart, stage_name_staged}
use Rattle.journal_intent.specs.FreeNames.{AreFreeNames, HaveNoRepeats, HasFreeNamesAndUnrepeatedWrites, IsFreeName, IsNoneOf, IsOneOf}
use Rattle.journal_intent.specs.IntentValue.{intent_of_lists}

true_false : true ≡ false → ⊥
true_false e = cc

-- ---- the state of files

pub shown_state : (ignored : List ℕ → Bool) (files : Files) (q : List ℕ) → is_staged q ≡ false → ignored q ≡ false → state_of ignored files q ≡ recovered_files files q
shown_state ignored files q staged shown = ap (λ b. cond b None (recovered_files files q)) (ap (λ b. b || ignored q) staged ∙ shown)

pub hidden_state : (ignored : List ℕ → Bool) (files : Files) (q : List ℕ) → is_hidden ignored q ≡ true → state_of ignored files q ≡ None
hidden_state ignored files q hidden = ap (λ b. cond b None (recovered_files files q)) hidden

-- ---- names that no move takes

no_place : (q : List ℕ) → is_staged q ≡ false → (k : ℕ) → q ≢ stage_name k
no_place q shown k is = true_false (sym (stage_name_staged k) ∙ sym (ap is_staged is) ∙ shown)

moves_off : (names : List (List ℕ)) (k : ℕ) (F : Files) (q : List ℕ) → ((j : ℕ) → q ≢ stage_name j) → IsNoneOf q names → files_after_staged_moves_from k names F q ≡ F q
moves_off [] k F q away none = refl
moves_off (name ∷ names) k F q away none =
    moves_off names (k + 1) (move_if_present F (stage_name k) name (F (stage_name k))) q away (neither_second (bytes_eq q name) (list_any (bytes_eq q) names) none)
    ∙ move_if_present-off F (stage_name k) name (F (stage_name k)) q (away k) (off_name q name (neither_first (bytes_eq q name) (list_any (bytes_eq q) names) none))

pub untouched_others : (intent : Intent) (files : Files) (q : List ℕ) → is_staged q ≡ false → IsNoneOf q intent.removals → IsNoneOf q intent.writes → files_after_actions intent files q ≡ files q
untouched_others intent files q shown kept unwritten =
    moves_off intent.writes 1 (files_without_names intent.removals files) q (no_place q shown) unwritten ∙ ap (λ b. cond b None (files q)) kept

free_among : (names : List (List ℕ)) (q : List ℕ) → AreFreeNames names → IsOneOf q names → IsFreeName q
free_among [] q free among = absurd (true_false (sym among))
free_among (name ∷ names) q free among = ⊎_elim
    (λ is. subst IsFreeName (sym is) free.0)
    (λ off. free_among names q free.1 (sym (ap (λ b. b || list_any (bytes_eq q) names) off) ∙ among))
    (name_cases q name)

unwritten : (b : Bool) (intent : Intent) (q : List ℕ) → HasFreeNamesAndUnrepeatedWrites intent → IsOneOf q intent.removals → list_any (bytes_eq q) intent.writes ≡ b → IsNoneOf q intent.writes
unwritten true intent q free among is = absurd (true_false (sym among ∙ free.apart q is))
unwritten false intent q free among is = is

pub removed_absent : (intent : Intent) (files : Files) (q : List ℕ) → HasFreeNamesAndUnrepeatedWrites intent → IsOneOf q intent.removals → files_after_actions intent files q ≡ None
removed_absent intent files q free among =
    moves_off intent.writes 1 (files_without_names intent.removals files) q (free_among intent.removals q free.removals among).no_place (unwritten (list_any (bytes_eq q) intent.writes) intent q free among refl)
    ∙ ap (λ b. cond b None (files q)) among

-- ---- names that a move takes

below : (contents : List (List ℕ)) (j k : ℕ) (F : Files) → j < k → k + length contents < 2 ^ 64 → files_with_staged k contents F (stage_name j) ≡ F (stage_name j)
below [] j k F less few = refl
below (bytes ∷ contents) j k F less few =
    below contents j (k + 1) (put_name F (stage_name k) bytes) (omega (arith, less)) (omega (arith, few))
    ∙ put_name-off F (stage_name k) bytes (stage_name j) (λ e. absurd (let same = stage_names_apart j k (omega (arith, less, few)) (omega (arith, few)) e in omega (arith, less, same)))

waits_at : (contents : List (List ℕ)) (k i : ℕ) (F : Files) (bytes : List ℕ) → k + length contents < 2 ^ 64 → slice_get contents i ≡ Some bytes → files_with_staged k contents F (stage_name (k + i)) ≡ Some bytes
waits_at [] k i F bytes few at = absurd (cc (at))
waits_at (c ∷ cs) k zero F bytes few at =
    let same : c ≡ bytes = cc in
    ap (λ n. files_with_staged (k + 1) cs (put_name F (stage_name k) c) (stage_name n)) (omega arith)
    ∙ below cs k (k + 1) (put_name F (stage_name k) c) (omega arith) (omega (arith, few))
    ∙ put_name-at F (stage_name k) c (stage_name k) refl ∙ ap Some same
waits_at (c ∷ cs) k (suc i) F bytes few at =
    ap (λ n. files_with_staged (k + 1) cs (put_name F (stage_name k) c) (stage_name n)) (omega arith)
    ∙ waits_at cs (k + 1) i (put_name F (stage_name k) c) bytes (omega (arith, few)) at

pub moved_at : (names : List (List ℕ)) (k i : ℕ) (F : Files) (name bytes : List ℕ) → AreFreeNames names → HaveNoRepeats names → k + length names < 2 ^ 64 → slice_get names i ≡ Some name → F (stage_name (k + i)) ≡ Some bytes → files_after_staged_moves_from k names F name ≡ Some bytes
moved_at [] k i F name bytes free once few at waits = absurd (cc (at))
moved_at (n ∷ ns) k zero F name bytes free once few at waits =
    let same : n ≡ name = cc in
    let here : F (stage_name k) ≡ Some bytes = ap (λ j. F (stage_name j)) (omega arith) ∙ waits in
    ap (files_after_staged_moves_from (k + 1) ns (move_if_present F (stage_name k) n (F (stage_name k)))) (sym same)
    ∙ moves_off ns (k + 1) (move_if_present F (stage_name k) n (F (stage_name k))) n free.0.no_place once.0
    ∙ ap (λ o. move_if_present F (stage_name k) n o n) here
    ∙ put_name-at (drop_name F (stage_name k)) n bytes n refl
moved_at (n ∷ ns) k (suc i) F name bytes free once few at waits =
    moved_at ns (k + 1) i (move_if_present F (stage_name k) n (F (stage_name k))) name bytes free.1 once.1 (omega (arith, few)) at
    (move_if_present-off F (stage_name k) n (F (stage_name k)) (stage_name (k + 1 + i))
    (λ e. absurd (let low = slice_below ns i name at in let same = stage_names_apart (k + 1 + i) k (omega (arith, few, low)) (omega (arith, few)) e in omega (arith, same)))
    (λ e. free.0.no_place (k + 1 + i) (sym e))
    ∙ ap (λ j. F (stage_name j)) (omega arith) ∙ waits)
  where
    slice_below : (names : List (List ℕ)) (i : ℕ) (name : List ℕ) → slice_get names i ≡ Some name → i < length names
    slice_below [] i name at = absurd (cc (at))
    slice_below (n ∷ ns) zero name at = omega arith
    slice_below (n ∷ ns) (suc i) name at = let rest = slice_below ns i name at in omega (arith, rest)

pub own_bytes : (removals writes contents : List (List ℕ)) (base : Files) (i : ℕ) (name bytes : List ℕ) → HasFreeNamesAndUnrepeatedWrites (intent_of_lists removals writes) → length contents ≡ length writes → length writes < 2 ^ 63
    → slice_get writes i ≡ Some name → slice_get contents i ≡ Some bytes → files_after_actions (intent_of_lists removals writes) (files_with_staged 1 contents base) name ≡ Some bytes
own_bytes removals writes contents base i name bytes free count few at staged =
    moved_at writes 1 i (files_without_names removals (files_with_staged 1 contents base)) name bytes free.writes free.once (omega (arith, few)) at
    (ap (λ b. cond b None (files_with_staged 1 contents base (stage_name (1 + i)))) (place_not_among removals (1 + i) free.removals)
    ∙ waits_at contents 1 i base bytes (omega (arith, few, count)) staged)
