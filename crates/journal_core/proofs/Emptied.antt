-- What waits is taken away where no intent is read.
use Rattle.std.proofs.Common.{◌≡◌, ◌||◌, ◌≢◌, inl, inr, ⊎_elim, ℕ, zero, suc, ◌≤◌, Bool, true, false, cond, List, [], ◌∷◌, ◌++◌, take, length, slice_get, Option, None, Some, Result, Ok, Err, refl, sym, ap, subst, ◌∙◌, arith}
use Rattle.std.specs.List.{list_any}
use Rattle.std.specs.Str.{bytes_eq}
use Rattle.std.proofs.lemmas.List.Elements.{All-head, All-tail}
use Rattle.std.proofs.lemmas.List.{take_all as take_whole}
use Rattle.base_core.specs.Files.{drop_name}
use Rattle.base_core.specs.Tree.{TreeState, bytes_of_file_number, files_under_map, files_of, with_name_removed, after_remove, IsAlwaysAllowed}
use Rattle.base_core.specs.Calls.{IfObservable, HoldsNow, ChangesHistory, IsCounted}
use Rattle.base_core.specs.Faults.{Counts}
use Rattle.base_core.specs.Crash.{Since}
use Rattle.base_core.specs.Undone.{IsDurable}
use Rattle.base_core.proofs.Undone.{read_may_be_left}
use Rattle.base_core.proofs.AtName.{name_cases, off_name}
use Rattle.journal_core.specs.Kept.{IsAbsentAfterEachCrash, KeepsFilesExcept}
use Rattle.journal_core.specs.Recovering.{AreStagedNames, HasRemovedNames}
use Rattle.journal_core.specs.Recovery.{StateDependsOn, intent_name, is_staged}
use Rattle.journal_core.specs.Quiet.{StateIsUnchanged}
use Rattle.journal_core.proofs.Acts.{still_on}
use Rattle.journal_intent.proofs.AtName.{drop_name-at, drop_name-off}
use Rattle.journal_core.proofs.Chain.{Runs, proper_now, run_begun, run_done, run_failed, step_now}
use Rattle.journal_core.proofs.History.{History, on_observable, observable_map}
use Rattle.journal_core.proofs.OneCall.{now_is}
use Rattle.journal_core.proofs.Simulate.{file_at, Simulates}
use Rattle.journal_core.proofs.Changes.{gone_removed, left_off}
use Rattle.journal_core.proofs.Waiting.{IsOffIn, off_gone, off_rests, off_state, still_by, still_self}
use Rattle.journal_core.proofs.Images.{CrashLaws}

-- ---- one name

true_false : true ≡ false → ⊥
true_false e = cc

staged_no_intent : (name : List ℕ) → is_staged name ≡ true → name ≢ intent_name
staged_no_intent name waiting is = true_false (sym waiting ∙ ap is_staged is)

removed_simulates : (ignored : List ℕ → Bool) (name : List ℕ) (v : TreeState) (o : Option ℕ) → IsOffIn v name → Simulates ignored v (with_name_removed name v o)
removed_simulates ignored name v None off m among = (m, among, λ q rests. refl)
removed_simulates ignored name v (Some n) off m (inl (kept, left, is)) =
    (kept, left, λ q rests. ap (file_at v.files) (sym (left_off v.names (drop_name v.names name) kept m is q (drop_name-off v.names name q (off_rests ignored (files_under_map v kept) name (off kept left) q rests)))))
removed_simulates ignored name v (Some n) off m (inr old) = (m, old, λ q rests. refl)

removed_others : (name : List ℕ) (v : TreeState) (o : Option ℕ) (q : List ℕ) → q ≢ name → files_of (with_name_removed name v o) q ≡ files_of v q
removed_others name v None q ne = refl
removed_others name v (Some n) q ne = ap (bytes_of_file_number v.files) (drop_name-off v.names name q ne)

removed_made : (name : List ℕ) (v : TreeState) (o : Option ℕ) → v.made ≤ (with_name_removed name v o).made
removed_made name v None = omega arith
removed_made name v (Some n) = omega arith

pub cleared_still : CrashLaws → (ignored : List ℕ → Bool) (name : List ℕ) (v : TreeState) → is_staged name ≡ true → IsAbsentAfterEachCrash intent_name v → IsDurable (StateDependsOn ignored) v → StateIsUnchanged ignored v (after_remove name v)
cleared_still laws ignored name v waiting gone is_durable =
    let off = off_gone v name waiting (staged_no_intent name waiting) gone in
    still_by laws ignored v (after_remove name v) is_durable (removed_simulates ignored name v (v.names name) off) (off_state ignored (files_of v) (files_of (after_remove name v)) name (off v.names (read_may_be_left v)) (removed_others name v (v.names name))) (removed_made name v (v.names name))

-- ---- one name after another

pub without_none : (v : TreeState) → HasRemovedNames [] v v
without_none v = record { map = λ q. refl; files = refl }

any_more : (names : List (List ℕ)) (name q : List ℕ) → list_any (bytes_eq q) (names ++ name ∷ []) ≡ (list_any (bytes_eq q) names || bytes_eq q name)
any_more [] name q = or_false (bytes_eq q name)
  where
    or_false : (b : Bool) → (b || false) ≡ b
    or_false true = refl
    or_false false = refl
any_more (n ∷ ns) name q = ap (λ b. bytes_eq q n || b) (any_more ns name q) ∙ or_assoc (bytes_eq q n) (list_any (bytes_eq q) ns) (bytes_eq q name)
  where
    or_assoc : (a b c : Bool) → (a || (b || c)) ≡ ((a || b) || c)
    or_assoc true b c = refl
    or_assoc false b c = refl

removed_map_at : (name : List ℕ) (v : TreeState) (o : Option ℕ) → v.names name ≡ o → (q : List ℕ) → (with_name_removed name v o).names q ≡ drop_name v.names name q
removed_map_at name v None none q = ⊎_elim (λ is. ap v.names is ∙ none ∙ sym (drop_name-at v.names name q is)) (λ off. sym (drop_name-off v.names name q (off_name q name off))) (name_cases q name)
removed_map_at name v (Some n) some q = refl

removed_files : (name : List ℕ) (v : TreeState) (o : Option ℕ) → (with_name_removed name v o).files ≡ v.files
removed_files name v None = refl
removed_files name v (Some n) = refl

cond_or : (a b : Bool) (o : Option ℕ) → cond b None (cond a None o) ≡ cond (a || b) None o
cond_or true true o = refl
cond_or true false o = refl
cond_or false true o = refl
cond_or false false o = refl

pub without_more : (names more : List (List ℕ)) (name : List ℕ) (start v : TreeState) → more ≡ names ++ name ∷ [] → HasRemovedNames names start v → HasRemovedNames more start (after_remove name v)
without_more names more name start v is was = record {
  map = λ q.
      removed_map_at name v (v.names name) refl q ∙ ap (cond (bytes_eq q name) None) (was.map q) ∙ cond_or (list_any (bytes_eq q) names) (bytes_eq q name) (start.names q)
      ∙ ap (λ b. cond b None (start.names q)) (sym (ap (λ (l : List (List ℕ)). list_any (bytes_eq q) l) is ∙ any_more names name q));
  files = removed_files name v (v.names name) ∙ was.files;
}

pub staged_at : (names : List (List ℕ)) (i : ℕ) (name : List ℕ) → AreStagedNames names → slice_get names i ≡ Some name → is_staged name ≡ true
staged_at [] i name all at = absurd (cc)
staged_at (n ∷ ns) zero name all at = let same : n ≡ name = cc in subst (λ (x : List ℕ). is_staged x ≡ true) same (All-head (λ x. is_staged x ≡ true) n ns all)
staged_at (n ∷ ns) (suc i) name all at = staged_at ns i name (All-tail (λ x. is_staged x ≡ true) n ns all) at

-- ---- the loop

-- so far nothing has happened to the state, and these names are gone
pub record Clears (ignored : List ℕ → Bool) (start v : TreeState) : Type 0 where
  pub is_unchanged : StateIsUnchanged ignored start v
  pub absent : IsAbsentAfterEachCrash intent_name v

abbrev pub Cleared : List (List ℕ) → History → History → Type 0
Cleared all old h = IfObservable old (λ v. (ignored : List ℕ → Bool) → IsDurable (StateDependsOn ignored) v → IsAbsentAfterEachCrash intent_name v → AreStagedNames all → Runs (StateIsUnchanged ignored v) (Clears ignored v) old h)

abbrev pub Gone : List (List ℕ) → History → History → Type 0
Gone names old h = IfObservable old (λ v. HoldsNow h (HasRemovedNames names v))

pub cleared_start : (all : List (List ℕ)) (old : History) → Cleared all old old
cleared_start all old = on_observable old _ (λ v rest is ignored is_durable none staged. run_begun (StateIsUnchanged ignored v) (Clears ignored v) old v rest is (record { is_unchanged = still_self ignored v is_durable; absent = none }))

pub gone_start : (names : List (List ℕ)) (old : History) → names ≡ [] → Gone names old old
gone_start names old is = on_observable old _ (λ v rest at. now_is old v rest (HasRemovedNames names v) at (subst (λ (l : List (List ℕ)). HasRemovedNames l v v) (sym is) (without_none v)))

module _ (laws : CrashLaws) (all : List (List ℕ)) (old h new : History) (i : ℕ) (name : List ℕ) (at : slice_get all i ≡ Some name) where
  step : (ignored : List ℕ → Bool) (start v : TreeState) → AreStagedNames all → Clears ignored start v → Clears ignored start (after_remove name v)
  step ignored start v staged q =
      let waiting = staged_at all i name staged at in
      record {
        is_unchanged = still_on ignored start v (after_remove name v) q.is_unchanged (cleared_still laws ignored name v waiting q.absent q.is_unchanged.is_durable);
        absent = gone_removed intent_name name v (v.names name) q.absent;
      }

  pub cleared_failed : {T E : Type 0} (e : E) → Cleared all old h → ChangesHistory {T = T} IsAlwaysAllowed (after_remove name) (after_remove name) h new (Err e)
      → IfObservable old (λ v. (ignored : List ℕ → Bool) → IsDurable (StateDependsOn ignored) v → IsAbsentAfterEachCrash intent_name v → AreStagedNames all → Since (StateIsUnchanged ignored v) old new)
  cleared_failed e cleared moves = observable_map old _ _ cleared (λ v runs ignored is_durable none staged. run_failed (StateIsUnchanged ignored v) (Clears ignored v) old h new e (runs ignored is_durable none staged) moves (λ w may q. (step ignored v w staged q).is_unchanged))

  pub cleared_done : {T E : Type 0} (x : T) → Cleared all old h → ChangesHistory {E = E} IsAlwaysAllowed (after_remove name) (after_remove name) h new (Ok x) → Cleared all old new
  cleared_done x cleared moves = observable_map old _ _ cleared (λ v runs ignored is_durable none staged. run_done (StateIsUnchanged ignored v) (Clears ignored v) (Clears ignored v) old h new x (runs ignored is_durable none staged) moves (λ w q. q.is_unchanged) (λ w q. step ignored v w staged q))

  pub gone_done : {T E : Type 0} (x : T) (names more : List (List ℕ)) → more ≡ names ++ name ∷ [] → Gone names old h → ChangesHistory {E = E} IsAlwaysAllowed (after_remove name) (after_remove name) h new (Ok x) → Gone more old new
  gone_done x names more is gone moves = observable_map old _ _ gone (λ v now. step_now (HasRemovedNames names v) (HasRemovedNames more v) new x h now moves (λ w q. without_more names more name v w is q))

pub cleared_ends : (all : List (List ℕ)) (old h : History) → Cleared all old h → IfObservable old (λ v. (ignored : List ℕ → Bool) → IsDurable (StateDependsOn ignored) v → IsAbsentAfterEachCrash intent_name v → AreStagedNames all → Since (StateIsUnchanged ignored v) old h)
cleared_ends all old h cleared = observable_map old _ _ cleared (λ v runs ignored is_durable none staged. (runs ignored is_durable none staged).since)

-- ---- what is read under the other names

abbrev pub KeepsShown : TreeState → TreeState → Type 0
KeepsShown = KeepsFilesExcept (λ q. is_staged q ≡ true)

abbrev pub Shown : List (List ℕ) → History → History → Type 0
Shown all old h = IfObservable old (λ v. AreStagedNames all → Runs (KeepsShown v) (KeepsShown v) old h)

pub shown_start : (all : List (List ℕ)) (old : History) → Shown all old old
shown_start all old = on_observable old _ (λ v rest is staged. run_begun (KeepsShown v) (KeepsShown v) old v rest is (λ q off. refl))

module _ (all : List (List ℕ)) (old h new : History) (i : ℕ) (name : List ℕ) (at : slice_get all i ≡ Some name) where
  shown_step : AreStagedNames all → (start v : TreeState) → KeepsShown start v → KeepsShown start (after_remove name v)
  shown_step staged start v k q off = removed_others name v (v.names name) q (λ e. off (ap is_staged e ∙ staged_at all i name staged at)) ∙ k q off

  pub shown_failed : {T E : Type 0} (e : E) → Shown all old h → ChangesHistory {T = T} IsAlwaysAllowed (after_remove name) (after_remove name) h new (Err e) → IfObservable old (λ v. AreStagedNames all → Since (KeepsShown v) old new)
  shown_failed e shown moves = observable_map old _ _ shown (λ v runs staged. run_failed (KeepsShown v) (KeepsShown v) old h new e (runs staged) moves (λ w may k. shown_step staged v w k))

  pub shown_done : {T E : Type 0} (x : T) → Shown all old h → ChangesHistory {E = E} IsAlwaysAllowed (after_remove name) (after_remove name) h new (Ok x) → Shown all old new
  shown_done x shown moves = observable_map old _ _ shown (λ v runs staged. run_done (KeepsShown v) (KeepsShown v) (KeepsShown v) old h new x (runs staged) moves (λ w k. k) (shown_step staged v))

pub shown_ends : (all : List (List ℕ)) (old h : History) → Shown all old h → IfObservable old (λ v. AreStagedNames all → Since (KeepsShown v) old h)
shown_ends all old h shown = observable_map old _ _ shown (λ v runs staged. (runs staged).since)

-- ---- its counts and its end

pub any_told : (old : History) (a b : ℕ) → b ≡ a → IfObservable old (λ v. b ≡ a)
any_told [] a b is = tt
any_told (v ∷ old) a b is = is

pub not_empty : (names : List (List ℕ)) (i : ℕ) (name : List ℕ) → slice_get names i ≡ Some name → names ≡ [] → ⊥
not_empty [] i name at e = absurd (cc)
not_empty (n ∷ ns) i name at e = absurd (cc)

pub told_misuses : {T E : Type 0} (names : List (List ℕ)) (old h : History) (a : ℕ) (before now : Counts) {r : Result T E} → Gone names old h → IfObservable old (λ v. before.misuses ≡ a) → IsCounted IsAlwaysAllowed h before now r → IfObservable old (λ v. now.misuses ≡ a)
told_misuses names old h a before now {r} gone so_far counted = by old gone so_far
  where
    by : (o : History) → IfObservable o (λ v. HoldsNow h (HasRemovedNames names v)) → IfObservable o (λ v. before.misuses ≡ a) → IfObservable o (λ v. now.misuses ≡ a)
    by [] g s = tt
    by (v ∷ o) g s = proper_now (HasRemovedNames names v) before now h r g counted (λ w q. tt) ∙ s

pub take_all : (names : List (List ℕ)) (n : ℕ) (old h : History) → length names ≤ n → Gone (take n names) old h → Gone names old h
take_all names n old h le gone = subst (λ (l : List (List ℕ)). Gone l old h) (take_whole n names le) gone
