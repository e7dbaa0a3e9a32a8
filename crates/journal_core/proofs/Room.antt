-- The move of a waiting file is no misuse where there is room.
use Rattle.std.proofs.Common.{◌≡◌, ◌≢◌, ◌⊎◌, inl, inr, ⊎_elim, ℕ, ◌+◌, ◌<◌, ◌^◌, Bool, true, false, cond, List, [], ◌∷◌, length, slice_get, Option, None, Some, IsSome, refl, sym, ap, subst, ◌∙◌, arith}
use Rattle.std.specs.List.{list_any}
use Rattle.std.specs.Str.{bytes_eq}
use Rattle.base_core.specs.Files.{Files, put_name, drop_name}
use Rattle.base_core.specs.Tree.{TreeState, files_of, CanRename}
use Rattle.base_core.proofs.AtName.{name_cases, off_name}
use Rattle.journal_core.specs.Recovery.{Intent, intent_name, intent_in_file, intent_of, move_if_present, recovered_files, files_after_intent, stage_name, files_after_staged_moves_from, files_without_names}
use Rattle.journal_core.specs.Staged.{Staging, IsCarryingOutActions, IsPresentOrOfJournal, AreIntentAndStagedPathsFree}
use Rattle.journal_intent.proofs.AtName.{put_name-at, put_name-off, drop_name-off}
use Rattle.journal_intent.proofs.StageNames.{stage_name_no_intent}
use Rattle.journal_core.proofs.Beside.{held_like, as_read}
use Rattle.journal_core.proofs.Replayed.{IsNumbered, IsProper, moved, move_if_present-off, recovered-moved}
use Rattle.journal_intent.specs.FreeNames.{IsNoneOf, IsFreeName}
use Rattle.journal_core.proofs.Acts.{among_at, free_at, numbered_at, removal_absent}

true_false : true ≡ false → ⊥
true_false e = cc

-- a name is stage_with_actions_done, or it is one of those that wait
abbrev Kept : Files → List ℕ → Type 0
Kept F q = IsSome (F q) ⊎ ((k : ℕ) × (q ≡ stage_name k))

moved_kept : (F : Files) (k : ℕ) (name q : List ℕ) → q ≢ stage_name k → IsSome (F q) → IsSome (move_if_present F (stage_name k) name (F (stage_name k)) q)
moved_kept F k name q ne some = by (F (stage_name k)) (name_cases q name)
  where
    by : (o : Option (List ℕ)) → (q ≡ name) ⊎ (bytes_eq q name ≡ false) → IsSome (move_if_present F (stage_name k) name o q)
    by None at = some
    by (Some b) (inl is) = subst IsSome (sym (put_name-at (drop_name F (stage_name k)) name b q is)) refl
    by (Some b) (inr off) = subst IsSome (sym (put_name-off (drop_name F (stage_name k)) name b q (off_name q name off) ∙ drop_name-off F (stage_name k) q ne)) some

unstaged_kept : (names : List (List ℕ)) (k : ℕ) (F : Files) (q : List ℕ) → IsSome (F q) → Kept (files_after_staged_moves_from k names F) q
unstaged_kept [] k F q some = inl some
unstaged_kept (name ∷ names) k F q some = ⊎_elim
    (λ is. inr (k, is))
    (λ off. unstaged_kept names (k + 1) (move_if_present F (stage_name k) name (F (stage_name k))) q (moved_kept F k name q (off_name q (stage_name k) off) some))
    (name_cases q (stage_name k))

-- what is there, and is not removed, stays there
pub recovered_held : (F : Files) (intent : Intent) (q : List ℕ) → intent_of F ≡ Some intent → IsNoneOf q intent.removals → IsSome (F q) → IsPresentOrOfJournal (recovered_files F) q
recovered_held F intent q has out some = ⊎_elim
    (λ is. inr (inl is))
    (λ off. ⊎_elim
    (λ kept. inl (subst IsSome (sym (ap (λ o. files_after_intent o F q) has ∙ drop_name-off (files_after_staged_moves_from 1 intent.writes (files_without_names intent.removals F)) intent_name q (off_name q intent_name off))) kept))
    (λ place. inr (inr place))
    (unstaged_kept intent.writes 1 (files_without_names intent.removals F) q (subst IsSome (sym (ap (λ b. cond b None (F q)) out)) some)))
    (name_cases q intent_name)

module _ (stage : Staging) (files : Files) (v : TreeState) (place name : List ℕ) (j k : ℕ) (acting : IsCarryingOutActions stage files v) (proper : IsProper stage.intent)
    (place_is : place ≡ stage_name k) (number : k ≡ j + 1) (at : slice_get stage.intent.writes j ≡ Some name) (within : j < length stage.intent.writes)
    (behind : stage.acted ≡ length stage.intent.removals + j) (room : AreIntentAndStagedPathsFree files) (there : IsSome (v.names place)) where
  open_name : IsFreeName name
  open_name = free_at stage.intent.writes j name proper.writes at

  out : IsNoneOf name stage.intent.removals
  out = proper.apart name (among_at stage.intent.writes j name at)

  -- every name that is there is stage_with_actions_done
  name_held : (q : List ℕ) → IsSome (v.names q) → IsPresentOrOfJournal files q
  name_held q some = by (list_any (bytes_eq q) stage.intent.removals) refl
    where
      by : (b : Bool) → list_any (bytes_eq q) stage.intent.removals ≡ b → IsPresentOrOfJournal files q
      by true is =
          let none = removal_absent stage files v acting (omega (arith, behind)) q is in
          let here = as_read v.files (v.names q) some in
          absurd (cc (none, here))
      by false is = subst (λ (F : Files). IsPresentOrOfJournal F q) acting.reads (recovered_held (files_of v) stage.intent q acting.located is (as_read v.files (v.names q) some))

  target_held : IsPresentOrOfJournal files name
  target_held =
      let small : k < 2 ^ 64 = (let few = proper.few in omega (arith, number, within, few)) in
      let numbered = subst (λ i. IsNumbered 1 stage.intent.writes i name) (omega (arith, number)) (numbered_at stage.intent.writes 1 j name proper.writes proper.once at) in
      let same = recovered-moved (files_of v) stage.intent k name acting.located proper small open_name numbered out in
      let waits : IsSome (files_of v (stage_name k)) = subst (λ (p : List ℕ). IsSome (files_of v p)) place_is (as_read v.files (v.names place) there) in
      subst (λ (F : Files). IsPresentOrOfJournal F name) (same ∙ acting.reads)
      (recovered_held (moved (files_of v) (stage_name k) name) stage.intent name
      (ap intent_in_file (move_if_present-off (files_of v) (stage_name k) name (files_of v (stage_name k)) intent_name (λ e. stage_name_no_intent k (sym e)) (λ e. open_name.no_intent (sym e))) ∙ acting.located)
      out (there_now (files_of v (stage_name k)) waits))
    where
      there_now : (o : Option (List ℕ)) → IsSome o → IsSome (move_if_present (files_of v) (stage_name k) name o name)
      there_now None some = absurd (cc (some))
      there_now (Some b) some = subst IsSome (sym (put_name-at (drop_name (files_of v) (stage_name k)) name b name refl)) refl

  pub can_move : CanRename place name v
  can_move = record {
    present = there;
    apart = λ e. open_name.no_place k (sym e ∙ place_is);
    folders = held_like files room (put_name (drop_name v.names place) name 0) (λ q has. at_name q has (name_cases q name));
  }
    where
      fewer : (b : Bool) (o : Option ℕ) → IsSome (cond b None o) → IsSome o
      fewer true o some = absurd (cc (some))
      fewer false o some = some

      at_name : (q : List ℕ) → IsSome (put_name (drop_name v.names place) name 0 q) → (q ≡ name) ⊎ (bytes_eq q name ≡ false) → IsPresentOrOfJournal files q
      at_name q has (inl is) = subst (IsPresentOrOfJournal files) (sym is) target_held
      at_name q has (inr off) = name_held q (fewer (bytes_eq q place) (v.names q) (subst IsSome (put_name-off (drop_name v.names place) name 0 q (off_name q name off)) has))
