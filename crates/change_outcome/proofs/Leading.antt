-- The actions of two lists, done on what is staged for them, lead to given files.
use Rattle.std.proofs.Common.{◌≡◌, ◌≢◌, ℕ, zero, suc, ◌+◌, Bool, true, false, List, [], ◌∷◌, length, map, slice_get, Option, None, Some, refl, sym, ap, ◌∙◌}
use Rattle.std.specs.Prelude.{IsSome, unwrap_or}
use Rattle.std.specs.Str.{bytes_eq}
use Rattle.std.specs.List.{list_any}
use Rattle.base_core.specs.Files.{Files, put_name}
use Rattle.journal_core.specs.Recovery.{files_after_actions, is_staged, stage_name}
use Rattle.journal_core.specs.Staged.{files_with_staged}
use Rattle.journal_core.proofs.Contents.{own_bytes, removed_absent, untouched_others}
use Rattle.journal_core.proofs.Acts.{among_index}
use Rattle.journal_core.proofs.journal_intent.AtName.{put_name-off}
use Rattle.journal_core.proofs.journal_intent.StageNames.{stage_name_staged}
use Rattle.journal_core.specs.journal_intent.FreeNames.{IsNoneOf, IsOneOf}
use Rattle.journal_core.specs.journal_intent.IntentValue.{intent_of_lists}
use Rattle.change_outcome.specs.ChangeOutcome.{bytes_or_empty_under}
use Rattle.change_outcome.specs.Leading.{CanStageActionsLeadingToFiles}
use Rattle.change_outcome.proofs.Emptied.{acted_empty}

true_false : true ≡ false → ⊥
true_false e = cc

pub length_map : (f : List ℕ → List ℕ) (xs : List (List ℕ)) → length (map f xs) ≡ length xs
length_map f [] = refl
length_map f (x ∷ xs) = ap (λ n. suc n) (length_map f xs)

pub map_at : (f : List ℕ → List ℕ) (xs : List (List ℕ)) (i : ℕ) (x : List ℕ) → slice_get xs i ≡ Some x → slice_get (map f xs) i ≡ Some (f x)
map_at f [] i x at = absurd (cc (at))
map_at f (y ∷ ys) zero x at = let same : y ≡ x = cc in ap (λ z. Some (f z)) same
map_at f (y ∷ ys) (suc i) x at = map_at f ys i x at

unwrapped : (o : Option (List ℕ)) → IsSome o → Some (unwrap_or o []) ≡ o
unwrapped None there = absurd (true_false (sym there))
unwrapped (Some bytes) there = refl

apart_shown : (q : List ℕ) (k : ℕ) → is_staged q ≡ false → q ≢ stage_name k
apart_shown q k shown is = true_false (sym (stage_name_staged k) ∙ (sym (ap is_staged is) ∙ shown))

staged_off : (cs : List (List ℕ)) (k : ℕ) (F : Files) (q : List ℕ) → is_staged q ≡ false → files_with_staged k cs F q ≡ F q
staged_off [] k F q shown = refl
staged_off (c ∷ cs) k F q shown = staged_off cs (k + 1) (put_name F (stage_name k) c) q shown ∙ put_name-off F (stage_name k) c q (apart_shown q k shown)

module _ (removals writes : List (List ℕ)) (files after : Files) (leads : CanStageActionsLeadingToFiles removals writes files after) where
  abbrev contents : List (List ℕ)
  contents = map (bytes_or_empty_under after) writes

  abbrev acted : Files
  acted = files_after_actions (intent_of_lists removals writes) (files_with_staged 1 contents files)

  written : (q : List ℕ) → IsOneOf q writes → acted q ≡ after q
  written q among =
      let place = among_index writes q among in
      own_bytes removals writes contents files place.0 q (bytes_or_empty_under after q) leads.free (length_map (bytes_or_empty_under after) writes) leads.few place.1 (map_at (bytes_or_empty_under after) writes place.0 q place.1)
      ∙ unwrapped (after q) (leads.gives q among)

  unplaced : (q : List ℕ) → is_staged q ≡ false → files_with_staged 1 contents files q ≡ files q
  unplaced q shown = staged_off contents 1 files q shown

  others : (q : List ℕ) → IsNoneOf q removals → IsNoneOf q writes → (b : Bool) → is_staged q ≡ b → acted q ≡ after q
  others q kept unwritten true staged =
      acted_empty removals writes contents files q leads.free (length_map (bytes_or_empty_under after) writes) staged (leads.empty q staged)
      ∙ sym (leads.keeps q kept unwritten ∙ leads.empty q staged)
  others q kept unwritten false shown =
      untouched_others (intent_of_lists removals writes) (files_with_staged 1 contents files) q shown kept unwritten
      ∙ (unplaced q shown ∙ sym (leads.keeps q kept unwritten))

  unwritten_at : (q : List ℕ) → IsNoneOf q writes → (b : Bool) → list_any (bytes_eq q) removals ≡ b → acted q ≡ after q
  unwritten_at q unwritten true among = removed_absent (intent_of_lists removals writes) (files_with_staged 1 contents files) q leads.free among ∙ sym (leads.removes q among)
  unwritten_at q unwritten false kept = others q kept unwritten (is_staged q) refl

  at_name : (q : List ℕ) (b : Bool) → list_any (bytes_eq q) writes ≡ b → acted q ≡ after q
  at_name q true among = written q among
  at_name q false unwritten = unwritten_at q unwritten (list_any (bytes_eq q) removals) refl

  pub acted_is : acted ≡ after
  acted_is i q = at_name q (list_any (bytes_eq q) writes) refl i
