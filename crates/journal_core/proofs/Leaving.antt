-- What waits only goes, and what a crash may still undo while it goes.
use Rattle.std.proofs.Common.{◌≡◌, ◌⊎◌, ◌≢◌, ◌||◌, inl, inr, ⊎_elim, ℕ, ◌+◌, ◌<◌, ◌^◌, true, false, List, ◌∷◌, [], length, slice_get, Option, None, Some, IsSome, Result, Ok, Err, refl, sym, ap, subst, ◌∙◌, arith}
use Rattle.std.specs.List.{list_any}
use Rattle.std.specs.Str.{bytes_eq}
use Rattle.base_core.specs.Calls.{IfObservable, HoldsNow, ChangesHistory}
use Rattle.base_core.specs.Crash.{Since}
use Rattle.base_core.specs.Files.{drop_name}
use Rattle.base_core.specs.Listed.{AreSortedAndEachBelowFolder}
use Rattle.base_core.specs.Tree.{TreeState, after_remove, after_rename, after_sync_names, bytes_of_file_number, files_of, with_file_moved, with_name_removed, unchanged_after_failed_call, IsAlwaysAllowed}
use Rattle.base_core.proofs.AtName.{other_name, name_cases, off_name}
use Rattle.journal_core.specs.Acting.{MovesIfPresent}
use Rattle.journal_core.specs.Kept.{JournalOnlyShrinks, IsJournalName, KeepsIntentWhileStageShrinks, NamesAreDurableExcept, NamesOutsideJournalAreDurable}
use Rattle.journal_core.specs.Recovering.{AreStagedNames, IsIntentReplayed}
use Rattle.journal_core.specs.Recovery.{Intent, intent_name, is_staged, stage_folder, stage_name}
use Rattle.journal_core.proofs.Acts.{free_at}
use Rattle.journal_core.proofs.Changes.{left_here}
use Rattle.journal_core.proofs.Chain.{Runs, by_now, run_begun, run_done, run_failed}
use Rattle.journal_core.proofs.Cleaned.{all_staged}
use Rattle.journal_core.proofs.Emptied.{staged_at}
use Rattle.journal_core.proofs.History.{History, none_since, no_more, one_more, now_since, observable_at, observable_map, on_observable, since_on, since_weaker}
use Rattle.journal_core.proofs.Keeping.{moved_others}
use Rattle.journal_core.proofs.Lasting.{moved_absent, removed_absent, some_none}
use Rattle.journal_core.proofs.OneCall.{one_called}
use Rattle.journal_core.proofs.Replayed.{IsProper, proper_of}
use Rattle.journal_core.proofs.Steps.{remove_others}
use Rattle.journal_intent.proofs.AtName.{put_name-off, drop_name-off}
use Rattle.journal_intent.proofs.StageNames.{stage_name_no_intent}
use Rattle.journal_intent.specs.FreeNames.{HasFreeNamesAndUnrepeatedWrites, IsFreeName}

-- ---- a relation of the start and each moment since

module _ (R : TreeState → TreeState → Type 0) (same : (v : TreeState) → R v v) (on : (a b c : TreeState) → R a b → R b c → R a c) where
  pub told_start : (old : History) → IfObservable old (λ v. Since (R v) old old)
  told_start old = on_observable old _ (λ v rest is. none_since (R v) old)

  pub told_on : (old h new : History) → IfObservable old (λ v. Since (R v) old h) → IfObservable h (λ u. Since (R u) h new) → IfObservable old (λ v. Since (R v) old new)
  told_on old h new first then = on_observable old _ (λ v rest is.
      let since = observable_at old v rest is (λ u. Since (R u) old h) first in
      since_on (R v) old h new since
      (by_now h (R v) (Since (R v) h new) (now_since (R v) old h v rest is (same v) since)
      (observable_map h _ (λ u. R v u → Since (R v) h new) then (λ u t q. since_weaker (R u) (R v) h new (λ w r. on v u w q r) t))))

pub told_called : {T E : Type 0} {can : TreeState → Type 0} {done failed : TreeState → TreeState} (R : TreeState → TreeState → Type 0) (old new : History) (r : Result T E) → ChangesHistory can done failed old new r
    → ((v : TreeState) → R v (done v)) → ((v : TreeState) → R v (failed v)) → IfObservable old (λ v. Since (R v) old new)
told_called R old new r moves keeps fails = on_observable old _ (λ v rest is. one_called old new v rest is (R v) r moves (keeps v) (λ may. fails v))

-- ---- what waits

pub less_same : (v : TreeState) → JournalOnlyShrinks v v
less_same v q waits = inr refl

pub less_on : (a b c : TreeState) → JournalOnlyShrinks a b → JournalOnlyShrinks b c → JournalOnlyShrinks a c
less_on a b c first then q waits = ⊎_elim (λ none. inl none) (λ is. ⊎_elim (λ none. inl (is ∙ none)) (λ was. inr (is ∙ was)) (first q waits)) (then q waits)

pub keeps_same : (v : TreeState) → KeepsIntentWhileStageShrinks v v
keeps_same v = record { intent = refl; waiting = less_same v }

pub keeps_on : (a b c : TreeState) → KeepsIntentWhileStageShrinks a b → KeepsIntentWhileStageShrinks b c → KeepsIntentWhileStageShrinks a c
keeps_on a b c first then = record { intent = then.intent ∙ first.intent; waiting = less_on a b c first.waiting then.waiting }

less_removed_at : (name : List ℕ) (v : TreeState) (o : Option ℕ) → v.names name ≡ o → JournalOnlyShrinks v (with_name_removed name v o)
less_removed_at name v o is q waits = ⊎_elim
    (λ at. inl (ap (files_of (with_name_removed name v o)) at ∙ ap (bytes_of_file_number (with_name_removed name v o).files) (removed_absent name v o is)))
    (λ off. inr (remove_others name v o q (off_name q name off)))
    (name_cases q name)

pub less_removed : (name : List ℕ) (v : TreeState) → JournalOnlyShrinks v (after_remove name v)
less_removed name v = less_removed_at name v (v.names name) refl

true_false : true ≡ false → ⊥
true_false e = cc

waiting_off : (name : List ℕ) → IsFreeName name → (q : List ℕ) → IsJournalName q → q ≢ name
waiting_off name free q waits e = ⊎_elim (λ is. free.no_intent (sym e ∙ is)) (λ staged. true_false (sym staged ∙ ap is_staged e ∙ free.unstaged)) waits

names_removed : (name : List ℕ) (v : TreeState) (o : Option ℕ) (q : List ℕ) → q ≢ name → (with_name_removed name v o).names q ≡ v.names q
names_removed name v None q off = refl
names_removed name v (Some n) q off = drop_name-off v.names name q off

names_moved : (from to : List ℕ) (v : TreeState) (o : Option ℕ) (q : List ℕ) → q ≢ from → q ≢ to → (with_file_moved from to v o).names q ≡ v.names q
names_moved from to v None q nf nt = refl
names_moved from to v (Some n) q nf nt = put_name-off (drop_name v.names from) to n q nt ∙ drop_name-off v.names from q nf

keeps_removed_free : (name : List ℕ) → IsFreeName name → (v : TreeState) → KeepsIntentWhileStageShrinks v (after_remove name v)
keeps_removed_free name free v = record {
  intent = names_removed name v (v.names name) intent_name (waiting_off name free intent_name (inl refl));
  waiting = less_removed name v;
}

less_moved_at : (k : ℕ) (from to : List ℕ) → from ≡ stage_name k → IsFreeName to → (v : TreeState) (o : Option ℕ) → v.names from ≡ o → JournalOnlyShrinks v (with_file_moved from to v o)
less_moved_at k from to from_is free v o is q waits = ⊎_elim
    (λ at. inl (ap (files_of (with_file_moved from to v o)) at ∙ ap (bytes_of_file_number (with_file_moved from to v o).files) (moved_absent from to v o is (waiting_off to free from (inr (ap is_staged from_is))))))
    (λ off. inr (moved_others from to v o q (off_name q from off) (waiting_off to free q waits)))
    (name_cases q from)

keeps_moved_free : (k : ℕ) (from to : List ℕ) → from ≡ stage_name k → IsFreeName to → (v : TreeState) → KeepsIntentWhileStageShrinks v (after_rename from to v)
keeps_moved_free k from to from_is free v = record {
  intent = names_moved from to v (v.names from) intent_name (λ e. stage_name_no_intent k (sym (e ∙ from_is))) (waiting_off to free intent_name (inl refl));
  waiting = less_moved_at k from to from_is free v (v.names from) refl;
}

-- ---- an action

module _ (intent : Intent) (free : HasFreeNamesAndUnrepeatedWrites intent) (few : length intent.removals + length intent.writes < 2 ^ 63) (old new : History) where
  proper : IsProper intent
  proper = proper_of intent free (omega (arith, few))

  pub removal_waiting : {T E : Type 0} (i : ℕ) (name : List ℕ) → slice_get intent.removals i ≡ Some name → (r : Result T E) → ChangesHistory IsAlwaysAllowed (after_remove name) (after_remove name) old new r → IfObservable old (λ v. Since (KeepsIntentWhileStageShrinks v) old new)
  removal_waiting i name at r moves =
      let is_free = free_at intent.removals i name proper.removals at in
      told_called KeepsIntentWhileStageShrinks old new r moves (keeps_removed_free name is_free) (keeps_removed_free name is_free)

  module _ (j : ℕ) (place name : List ℕ) (place_is : place ≡ stage_name (j + 1)) (at : slice_get intent.writes j ≡ Some name) where
    by_case : (v : TreeState) → (new ≡ old) ⊎ (new ≡ after_rename place name v ∷ old) → Since (KeepsIntentWhileStageShrinks v) old new
    by_case v = ⊎_elim
        (λ none. no_more (KeepsIntentWhileStageShrinks v) old old new (none_since (KeepsIntentWhileStageShrinks v) old) none)
        (λ more. one_more (KeepsIntentWhileStageShrinks v) old old new (after_rename place name v) (none_since (KeepsIntentWhileStageShrinks v) old) more (keeps_moved_free (j + 1) place name place_is (free_at intent.writes j name proper.writes at) v))

    pub move_waiting : {T E : Type 0} (r : Result T E) → MovesIfPresent place name old new r → IfObservable old (λ v. Since (KeepsIntentWhileStageShrinks v) old new)
    move_waiting (Ok x) moves = observable_map old _ _ moves.ok (λ v told. by_case v (⊎_elim (λ none. inl none.1) (λ more. inr more) told))
    move_waiting (Err e) moves = observable_map old _ _ moves.err (λ v told. by_case v told)

-- ---- the end of a stage

pub sync_waiting : {T E : Type 0} (old new : History) (r : Result T E) → ChangesHistory IsAlwaysAllowed after_sync_names unchanged_after_failed_call old new r → IfObservable old (λ v. Since (JournalOnlyShrinks v) old new)
sync_waiting old new r moves = told_called JournalOnlyShrinks old new r moves (λ v q waits. inr refl) less_same

pub remove_waiting : {T E : Type 0} (name : List ℕ) (old new : History) (r : Result T E) → ChangesHistory IsAlwaysAllowed (after_remove name) (after_remove name) old new r → IfObservable old (λ v. Since (JournalOnlyShrinks v) old new)
remove_waiting name old new r moves = told_called JournalOnlyShrinks old new r moves (less_removed name) (less_removed name)

pub waiting_on : (old h new : History) → IfObservable old (λ v. Since (JournalOnlyShrinks v) old h) → IfObservable h (λ u. Since (JournalOnlyShrinks u) h new) → IfObservable old (λ v. Since (JournalOnlyShrinks v) old new)
waiting_on = told_on JournalOnlyShrinks less_same less_on

pub waiting_start : (old : History) → IfObservable old (λ v. Since (JournalOnlyShrinks v) old old)
waiting_start = told_start JournalOnlyShrinks less_same less_on

pub intent_on : (old h new : History) → IfObservable old (λ v. Since (KeepsIntentWhileStageShrinks v) old h) → IfObservable h (λ u. Since (KeepsIntentWhileStageShrinks u) h new) → IfObservable old (λ v. Since (KeepsIntentWhileStageShrinks v) old new)
intent_on = told_on KeepsIntentWhileStageShrinks keeps_same keeps_on

pub intent_start : (old : History) → IfObservable old (λ v. Since (KeepsIntentWhileStageShrinks v) old old)
intent_start = told_start KeepsIntentWhileStageShrinks keeps_same keeps_on

pub intent_waiting : (old new : History) → IfObservable old (λ v. Since (KeepsIntentWhileStageShrinks v) old new) → IfObservable old (λ v. Since (JournalOnlyShrinks v) old new)
intent_waiting old new told = observable_map old _ _ told (λ v t. since_weaker (KeepsIntentWhileStageShrinks v) (JournalOnlyShrinks v) old new (λ w k. k.waiting) t)

-- a call that changed nothing came before, or none came
pub waiting_back : (old mid new : History) → mid ≡ old → IfObservable mid (λ v. Since (JournalOnlyShrinks v) mid new) → IfObservable old (λ v. Since (JournalOnlyShrinks v) old new)
waiting_back old mid new same told = subst (λ (l : History). IfObservable l (λ v. Since (JournalOnlyShrinks v) l new)) same told

pub waiting_none : (old new : History) → new ≡ old → IfObservable old (λ v. Since (JournalOnlyShrinks v) old new)
waiting_none old new same = on_observable old _ (λ v rest is. no_more (JournalOnlyShrinks v) old old new (none_since (JournalOnlyShrinks v) old) same)

-- ---- the names last

abbrev pub NamesOutsideJournalAreDurableIfNoIntent : TreeState → Type 0
NamesOutsideJournalAreDurableIfNoIntent w = w.names intent_name ≡ None → NamesOutsideJournalAreDurable w

abbrev pub Lasts : History → History → Type 0
Lasts old new = IfObservable old (λ v. IsSome (v.names intent_name) → Since NamesOutsideJournalAreDurableIfNoIntent old new)

kept_lasts : (v w : TreeState) → IsSome (v.names intent_name) → KeepsIntentWhileStageShrinks v w → NamesOutsideJournalAreDurableIfNoIntent w
kept_lasts v w some keeps none = absurd (some_none (v.names intent_name) (sym keeps.intent ∙ none) some)

pub act_lasts : (old new : History) → IfObservable old (λ v. Since (KeepsIntentWhileStageShrinks v) old new) → Lasts old new
act_lasts old new told = observable_map old _ _ told (λ v t some. since_weaker (KeepsIntentWhileStageShrinks v) NamesOutsideJournalAreDurableIfNoIntent old new (λ w k. kept_lasts v w some k) t)

pub end_lasts : (old mid new : History) → IfObservable old (λ v. Since (KeepsIntentWhileStageShrinks v) old mid) → IfObservable mid (λ u. IsSome (u.names intent_name) → Since (λ w. w.names intent_name ≡ None → NamesAreDurableExcept (intent_name ∷ []) w) mid new) → Lasts old new
end_lasts old mid new told last = on_observable old _ (λ v rest is some.
    let since = observable_at old v rest is (λ u. Since (KeepsIntentWhileStageShrinks u) old mid) told in
    since_on NamesOutsideJournalAreDurableIfNoIntent old mid new (since_weaker (KeepsIntentWhileStageShrinks v) NamesOutsideJournalAreDurableIfNoIntent old mid (λ w k. kept_lasts v w some k) since)
    (by_now mid (KeepsIntentWhileStageShrinks v) (Since NamesOutsideJournalAreDurableIfNoIntent mid new) (now_since (KeepsIntentWhileStageShrinks v) old mid v rest is (keeps_same v) since)
    (observable_map mid _ (λ u. KeepsIntentWhileStageShrinks v u → Since NamesOutsideJournalAreDurableIfNoIntent mid new) last (λ u t k.
    since_weaker (λ w. w.names intent_name ≡ None → NamesAreDurableExcept (intent_name ∷ []) w) NamesOutsideJournalAreDurableIfNoIntent mid new (λ w p none map among q off unstaged. p none map among q (none_of q off)) (t (subst IsSome (sym k.intent) some))))))
  where
    none_of : (q : List ℕ) → q ≢ intent_name → list_any (bytes_eq q) (intent_name ∷ []) ≡ false
    none_of q off = ap (λ b. b || false) (other_name q intent_name off)

pub lasts_back : (old mid new : History) → mid ≡ old → Lasts mid new → Lasts old new
lasts_back old mid new same told = subst (λ (l : History). Lasts l new) same told

pub lasts_none : (old new : History) → new ≡ old → Lasts old new
lasts_none old new same = on_observable old _ (λ v rest is some. no_more NamesOutsideJournalAreDurableIfNoIntent old old new (none_since NamesOutsideJournalAreDurableIfNoIntent old) same)

-- what waits is taken away behind it
shown_removed_at : (name : List ℕ) → is_staged name ≡ true → (v : TreeState) (o : Option ℕ) → NamesOutsideJournalAreDurable v → NamesOutsideJournalAreDurable (with_name_removed name v o)
shown_removed_at name waits v None last map among q off unstaged = last map among q off unstaged
shown_removed_at name waits v (Some n) last map (inl (kept, left, is)) q off unstaged = left_here v.names (drop_name v.names name) kept map is q (last kept left q off unstaged)
shown_removed_at name waits v (Some n) last map (inr among) q off unstaged =
    last map among q off unstaged ∙ sym (drop_name-off v.names name q (λ e. true_false (sym waits ∙ sym (ap is_staged e) ∙ unstaged)))

abbrev pub Lasting : List (List ℕ) → History → History → Type 0
Lasting all old h = IfObservable old (λ v. AreStagedNames all → NamesOutsideJournalAreDurable v → Runs NamesOutsideJournalAreDurable NamesOutsideJournalAreDurable old h)

pub lasting_start : (all : List (List ℕ)) (old : History) → Lasting all old old
lasting_start all old = on_observable old _ (λ v rest is staged last. run_begun NamesOutsideJournalAreDurable NamesOutsideJournalAreDurable old v rest is last)

module _ (all : List (List ℕ)) (old h new : History) (i : ℕ) (name : List ℕ) (at : slice_get all i ≡ Some name) where
  lasting_step : AreStagedNames all → (v : TreeState) → NamesOutsideJournalAreDurable v → NamesOutsideJournalAreDurable (after_remove name v)
  lasting_step staged v last = shown_removed_at name (staged_at all i name staged at) v (v.names name) last

  pub lasting_failed : {T E : Type 0} (e : E) → Lasting all old h → ChangesHistory {T = T} IsAlwaysAllowed (after_remove name) (after_remove name) h new (Err e) → IfObservable old (λ v. AreStagedNames all → NamesOutsideJournalAreDurable v → Since NamesOutsideJournalAreDurable old new)
  lasting_failed e lasting moves = observable_map old _ _ lasting (λ v runs staged last. run_failed NamesOutsideJournalAreDurable NamesOutsideJournalAreDurable old h new e (runs staged last) moves (λ w may k. lasting_step staged w k))

  pub lasting_done : {T E : Type 0} (x : T) → Lasting all old h → ChangesHistory {E = E} IsAlwaysAllowed (after_remove name) (after_remove name) h new (Ok x) → Lasting all old new
  lasting_done x lasting moves = observable_map old _ _ lasting (λ v runs staged last. run_done NamesOutsideJournalAreDurable NamesOutsideJournalAreDurable NamesOutsideJournalAreDurable old h new x (runs staged last) moves (λ w k. k) (lasting_step staged))

pub lasting_ends : (all : List (List ℕ)) (old h : History) → Lasting all old h → IfObservable old (λ v. AreStagedNames all → NamesOutsideJournalAreDurable v → Since NamesOutsideJournalAreDurable old h)
lasting_ends all old h lasting = observable_map old _ _ lasting (λ v runs staged last. (runs staged last).since)

abbrev pub EmptyLasts : History → History → Type 0
EmptyLasts old new = IfObservable old (λ v. NamesOutsideJournalAreDurable v → Since NamesOutsideJournalAreDurable old new)

pub empty_lasts : (names : List (List ℕ)) (folder : List ℕ) → folder ≡ stage_folder → (old mid new : History) → mid ≡ old → AreSortedAndEachBelowFolder folder names → IfObservable mid (λ v. AreStagedNames names → NamesOutsideJournalAreDurable v → Since NamesOutsideJournalAreDurable mid new) → EmptyLasts old new
empty_lasts names folder folder_is old mid new same below told =
    subst (λ (l : History). EmptyLasts l new) same (observable_map mid _ (λ v. NamesOutsideJournalAreDurable v → Since NamesOutsideJournalAreDurable mid new) told (λ v t. t (all_staged folder names folder_is below)))

pub empty_lasts_none : (old new : History) → new ≡ old → EmptyLasts old new
empty_lasts_none old new same = on_observable old _ (λ v rest is last. no_more NamesOutsideJournalAreDurable old old new (none_since NamesOutsideJournalAreDurable old) same)

-- both
pub all_lasts : (old mid new : History) → Lasts old mid → IfObservable old (λ v. HoldsNow mid (IsIntentReplayed v)) → EmptyLasts mid new → Lasts old new
all_lasts old mid new lasts replayed empties = on_observable old _ (λ v rest is some.
    let since = observable_at old v rest is (λ u. IsSome (u.names intent_name) → Since NamesOutsideJournalAreDurableIfNoIntent old mid) lasts some in
    let here = now_since NamesOutsideJournalAreDurableIfNoIntent old mid v rest is (λ none. absurd (some_none (v.names intent_name) none some)) since in
    since_on NamesOutsideJournalAreDurableIfNoIntent old mid new since
    (by_now mid (IsIntentReplayed v) (Since NamesOutsideJournalAreDurableIfNoIntent mid new) (observable_at old v rest is (λ u. HoldsNow mid (IsIntentReplayed u)) replayed)
    (then v mid refl here)))
  where
    then : (v : TreeState) (m : History) → m ≡ mid → HoldsNow m NamesOutsideJournalAreDurableIfNoIntent → IfObservable m (λ u. IsIntentReplayed v u → Since NamesOutsideJournalAreDurableIfNoIntent mid new)
    then v [] is here = absurd here
    then v (u ∷ m) is here = λ replay.
        since_weaker NamesOutsideJournalAreDurable NamesOutsideJournalAreDurableIfNoIntent mid new (λ w k none. k)
        (observable_at mid u m (sym is) (λ w. NamesOutsideJournalAreDurable w → Since NamesOutsideJournalAreDurable mid new) empties (here replay.absent))
