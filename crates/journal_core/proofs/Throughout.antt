-- What each moment keeps while an intent comes to are under its name.
use Rattle.std.proofs.Common.{◌≡◌, ◌⊎◌, inl, inr, ⊎_elim, ℕ, List, ◌∷◌, [], None, Result, Ok, Err, OnOk, refl, sym, ap, subst, ◌∙◌}
use Rattle.base_core.specs.Calls.{IfObservable, HoldsNow, ChangesHistory}
use Rattle.base_core.specs.Crash.{Since}
use Rattle.base_core.specs.Tree.{TreeState, after_rename, after_sync_names, bytes_of_file_number, files_of, unchanged_after_failed_call, IsAlwaysAllowed, CanRename}
use Rattle.base_core.proofs.AtName.{name_cases, off_name}
use Rattle.journal_core.specs.Kept.{KeepsFilesExcept}
use Rattle.journal_core.specs.Recovery.{intent_name, stage_name}
use Rattle.journal_core.proofs.History.{History, now_since, observable_at, observable_map, on_observable, since_weaker}
use Rattle.journal_core.proofs.Keeping.{moved_others}
use Rattle.journal_core.proofs.Leaving.{told_called, told_on}
use Rattle.journal_core.proofs.Maps.{Keeps, maps_more}

abbrev pub KeepsFree : TreeState → TreeState → Type 0
KeepsFree = KeepsFilesExcept (λ q. (q ≡ intent_name) ⊎ (q ≡ stage_name 0))

abbrev pub Frees : History → History → Type 0
Frees old new = IfObservable old (λ v. Since (KeepsFree v) old new)

free_same : (v : TreeState) → KeepsFree v v
free_same v q off = refl

free_through : (a b c : TreeState) → KeepsFree a b → KeepsFree b c → KeepsFree a c
free_through a b c first then q off = then q off ∙ first q off

pub free_on : (old mid new : History) → Frees old mid → Frees mid new → Frees old new
free_on = told_on KeepsFree free_same free_through

-- ---- the calls

module _ {T E : Type 0} (old new : History) (r : Result T E) where
  pub free_synced : ChangesHistory IsAlwaysAllowed after_sync_names unchanged_after_failed_call old new r → Frees old new
  free_synced moves = told_called KeepsFree old new r moves free_same free_same

  pub free_renamed : (from to : List ℕ) → from ≡ stage_name 0 → to ≡ intent_name → ChangesHistory (CanRename from to) (after_rename from to) (after_rename from to) old new r → Frees old new
  free_renamed from to from_is to_is moves = told_called KeepsFree old new r moves step step
    where
      step : (v : TreeState) → KeepsFree v (after_rename from to v)
      step v q off = moved_others from to v (v.names from) q (λ e. off (inr (e ∙ from_is))) (λ e. off (inl (e ∙ to_is)))

pub free_written : (place : List ℕ) → place ≡ stage_name 0 → (old mid : History) → IfObservable old (λ v. Since (KeepsFilesExcept (λ q. q ≡ place) v) old mid) → Frees old mid
free_written place place_is old mid told = observable_map old _ _ told (λ v t.
    since_weaker (KeepsFilesExcept (λ q. q ≡ place) v) (KeepsFree v) old mid (λ w k q off. k q (λ e. off (inr (e ∙ place_is)))) t)

-- ---- what then is under the name of the waiting intent

absent_both : (v w : TreeState) → v.names (stage_name 0) ≡ None → w.names (stage_name 0) ≡ None → KeepsFree v w → KeepsFilesExcept (λ q. q ≡ intent_name) v w
absent_both v w none_v none_w k q off = ⊎_elim
    (λ is. ap (files_of w) is ∙ ap (bytes_of_file_number w.files) none_w ∙ sym (ap (files_of v) is ∙ ap (bytes_of_file_number v.files) none_v))
    (λ away. k q (λ either. ⊎_elim off (off_name q (stage_name 0) away) either))
    (name_cases q (stage_name 0))

absent_now : (h : History) (v : TreeState) → v.names (stage_name 0) ≡ None → HoldsNow h (KeepsFree v) → IfObservable h (λ w. w.names (stage_name 0) ≡ None) → HoldsNow h (KeepsFilesExcept (λ q. q ≡ intent_name) v)
absent_now [] v none_v now none_w = absurd now
absent_now (w ∷ h) v none_v now none_w = absent_both v w none_v none_w now

pub free_but_intent : {T E : Type 0} (place : List ℕ) → place ≡ stage_name 0 → (old new : History) (r : Result T E) → IfObservable old (λ v. v.names place ≡ None) → Frees old new → OnOk r (IfObservable new (λ w. w.names (stage_name 0) ≡ None))
    → IfObservable old (λ v. OnOk r (HoldsNow new (KeepsFilesExcept (λ q. q ≡ intent_name) v)))
free_but_intent place place_is old new (Err e) absent keeps moved = on_observable old _ (λ v rest is. tt)
free_but_intent place place_is old new (Ok x) absent keeps moved = on_observable old _ (λ v rest is.
    absent_now new v (ap v.names (sym place_is) ∙ observable_at old v rest is (λ u. u.names place ≡ None) absent)
    (now_since (KeepsFree v) old new v rest is (free_same v) (observable_at old v rest is (λ u. Since (KeepsFree u) old new) keeps)) moved)

-- ---- the maps of names

pub maps_written : (old mid : History) → Keeps (stage_name 0 ∷ []) old mid → Keeps (intent_name ∷ stage_name 0 ∷ []) old mid
maps_written old mid told = maps_more intent_name (stage_name 0 ∷ []) old mid told

pub maps_moved : (place name : List ℕ) → place ≡ stage_name 0 → name ≡ intent_name → (old new : History) → Keeps (name ∷ place ∷ []) old new → Keeps (intent_name ∷ stage_name 0 ∷ []) old new
maps_moved place name place_is name_is old new told =
    subst (λ (p : List ℕ). Keeps (intent_name ∷ p ∷ []) old new) place_is (subst (λ (n : List ℕ). Keeps (n ∷ place ∷ []) old new) name_is told)
