-- At each moment a name that does not wait has its old bytes or its new ones.
use Rattle.std.proofs.Common.{◌≡◌, ◌≢◌, ◌⊎◌, inl, inr, ⊎_elim, ℕ, ◌+◌, ◌<◌, ◌^◌, Bool, true, false, cond, List, [], ◌∷◌, length, slice_get, Option, None, Some, Result, Ok, Err, refl, sym, ap, subst, ◌∙◌, arith}
use Rattle.base_core.specs.Calls.{IfObservable, HoldsNow, ChangesHistory}
use Rattle.base_core.specs.Crash.{Since}
use Rattle.base_core.specs.Files.{Files, drop_name}
use Rattle.base_core.specs.Tree.{TreeState, after_remove, after_rename, after_sync_names, files_of, unchanged_after_failed_call, IsAlwaysAllowed}
use Rattle.base_core.proofs.AtName.{name_cases, off_name}
use Rattle.journal_core.specs.Acting.{MovesIfPresent, stage_with_actions_done}
use Rattle.journal_core.specs.Kept.{ReadsOldOrNewBytesOutsideJournal, IsJournalName, KeepsFilesExcept, KeepsOldOrNewBytes}
use Rattle.journal_core.specs.Recovery.{Intent, files_after_actions, intent_name, intent_of, is_staged, move_if_present, read_intent, recovered_files, files_after_intent, stage_name, files_without_names}
use Rattle.journal_core.specs.Staged.{IsCarryingOutActions, Staging, unstaged_files}
use Rattle.journal_core.proofs.Acts.{among_at, moved_reads, removed_reads}
use Rattle.journal_core.proofs.Carried.{acting_found}
use Rattle.journal_core.proofs.Chain.{by_now, now_both}
use Rattle.journal_core.proofs.Contents.{moved_at, removed_absent}
use Rattle.journal_core.proofs.Emptied.{KeepsShown}
use Rattle.journal_core.proofs.History.{History, no_more, none_since, now_since, observable_at, observable_map, on_observable, one_more, since_on, since_weaker}
use Rattle.journal_core.proofs.Leaving.{told_called, told_on}
use Rattle.journal_core.proofs.OneCall.{one_called}
use Rattle.journal_core.proofs.Replayed.{move_if_present-off, place_not_among}
use Rattle.journal_core.proofs.Rowing.{ActsOn}
use Rattle.journal_intent.proofs.AtName.{drop_name-at, drop_name-off, put_name-at}
use Rattle.journal_intent.proofs.StageNames.{stage_name_staged}
use Rattle.journal_intent.specs.FreeNames.{HasFreeNamesAndUnrepeatedWrites, IsOneOf}

-- a name has the bytes that it had
as_before : (base files : Files) (v w : TreeState) (q : List ℕ) → files_of w q ≡ files_of v q → (files_of v q ≡ base q) ⊎ (files_of v q ≡ files q) → (files_of w q ≡ base q) ⊎ (files_of w q ≡ files q)
as_before base files v w q same = ⊎_elim (λ old. inl (same ∙ old)) (λ new. inr (same ∙ new))

-- ---- one action

module _ (intent : Intent) (free : HasFreeNamesAndUnrepeatedWrites intent) (few : length intent.removals + length intent.writes < 2 ^ 63) (base files : Files) where
  abbrev P : TreeState → Type 0
  P = ReadsOldOrNewBytesOutsideJournal base files

  recovered_at : (F : Files) (q : List ℕ) → intent_of F ≡ Some intent → recovered_files F ≡ files → q ≢ intent_name → files q ≡ files_after_actions intent F q
  recovered_at F q has reads off = sym (ap (λ (G : Files). G q) reads) ∙ ap (λ o. files_after_intent o F q) has ∙ drop_name-off (files_after_actions intent F) intent_name q off

  either_removed : (acted : ℕ) (v : TreeState) (i : ℕ) (name : List ℕ) → slice_get intent.removals i ≡ Some name → IsCarryingOutActions (stage_with_actions_done intent acted) files v → P v → P (after_remove name v)
  either_removed acted v i name at acting so_far q shown = ⊎_elim
      (λ is. inr (ap (λ (F : Files). F q) (removed_reads v name) ∙ drop_name-at (files_of v) name q is
      ∙ sym (recovered_at (files_of v) q acting.located acting.reads (λ e. shown (inl e)) ∙ removed_absent intent (files_of v) q free (subst (λ (x : List ℕ). IsOneOf x intent.removals) (sym is) (among_at intent.removals i name at)))))
      (λ off. as_before base files v (after_remove name v) q (ap (λ (F : Files). F q) (removed_reads v name) ∙ drop_name-off (files_of v) name q (off_name q name off)) (so_far q shown))
      (name_cases q name)

  module _ (acted : ℕ) (v : TreeState) (j : ℕ) (place name : List ℕ) (within : j < length intent.writes) (place_is : place ≡ stage_name (j + 1)) (at : slice_get intent.writes j ≡ Some name) (acting : IsCarryingOutActions (stage_with_actions_done intent acted) files v) where
    F : Files
    F = files_of v

    lands : (bytes : List ℕ) → files_of v place ≡ Some bytes → files_after_actions intent (files_of v) name ≡ Some bytes
    lands bytes waits = moved_at intent.writes 1 j (files_without_names intent.removals (files_of v)) name bytes free.writes free.once (omega (arith, few)) at
        (ap (λ b. cond b None (files_of v (stage_name (1 + j)))) (place_not_among intent.removals (1 + j) free.removals)
        ∙ ap (λ n. files_of v (stage_name n)) (omega arith) ∙ sym (ap (files_of v) place_is) ∙ waits)

    moved_either : (q : List ℕ) → (IsJournalName q → ⊥) → (o : Option (List ℕ)) → files_of v place ≡ o → (files_of v q ≡ base q) ⊎ (files_of v q ≡ files q)
        → (move_if_present (files_of v) place name o q ≡ base q) ⊎ (move_if_present (files_of v) place name o q ≡ files q)
    moved_either q shown None none so_far = so_far
    moved_either q shown (Some bytes) waits so_far = ⊎_elim
        (λ is. inr (put_name-at (drop_name (files_of v) place) name bytes q is
        ∙ sym (recovered_at (files_of v) q acting.located acting.reads (λ e. shown (inl e)) ∙ ap (files_after_actions intent (files_of v)) is ∙ lands bytes waits)))
        (λ off.
        let same = move_if_present-off (files_of v) place name (Some bytes) q (λ e. shown (inr (ap is_staged (e ∙ place_is) ∙ stage_name_staged (j + 1)))) (off_name q name off) in
        ⊎_elim (λ old. inl (same ∙ old)) (λ new. inr (same ∙ new)) so_far)
        (name_cases q name)

    either_moved : P v → P (after_rename place name v)
    either_moved so_far q shown =
        let same = ap (λ (G : Files). G q) (moved_reads v place name) in
        ⊎_elim (λ old. inl (same ∙ old)) (λ new. inr (same ∙ new)) (moved_either q shown (files_of v place) refl (so_far q shown))

module _ (intent : Intent) (free : HasFreeNamesAndUnrepeatedWrites intent) (few : length intent.removals + length intent.writes < 2 ^ 63) (old new : History) where
  pub removal_bytes : {T E : Type 0} (i : ℕ) (name : List ℕ) → slice_get intent.removals i ≡ Some name → (r : Result T E) → ChangesHistory IsAlwaysAllowed (after_remove name) (after_remove name) old new r
      → IfObservable old (λ v. (files : Files) → IsCarryingOutActions (stage_with_actions_done intent i) files v → KeepsOldOrNewBytes files v old new)
  removal_bytes i name at r moves = on_observable old _ (λ v rest is files acting base so_far.
      let next = either_removed intent free few base files i v i name at acting so_far in
      one_called old new v rest is (ReadsOldOrNewBytesOutsideJournal base files) r moves next (λ may. next))

  module _ (j acted : ℕ) (within : j < length intent.writes) (place name : List ℕ) (place_is : place ≡ stage_name (j + 1)) (at : slice_get intent.writes j ≡ Some name) where
    by_case : (v : TreeState) (files : Files) → IsCarryingOutActions (stage_with_actions_done intent acted) files v → (new ≡ old) ⊎ (new ≡ after_rename place name v ∷ old) → KeepsOldOrNewBytes files v old new
    by_case v files acting case base so_far = ⊎_elim
        (λ none. no_more (ReadsOldOrNewBytesOutsideJournal base files) old old new (none_since (ReadsOldOrNewBytesOutsideJournal base files) old) none)
        (λ more. one_more (ReadsOldOrNewBytesOutsideJournal base files) old old new (after_rename place name v) (none_since (ReadsOldOrNewBytesOutsideJournal base files) old) more (either_moved intent free few base files acted v j place name within place_is at acting so_far))
        case

    pub move_bytes : {T E : Type 0} (r : Result T E) → MovesIfPresent place name old new r → IfObservable old (λ v. (files : Files) → IsCarryingOutActions (stage_with_actions_done intent acted) files v → KeepsOldOrNewBytes files v old new)
    move_bytes (Ok x) moves = observable_map old _ _ moves.ok (λ v told files acting. by_case v files acting (⊎_elim (λ none. inl none.1) (λ more. inr more) told))
    move_bytes (Err e) moves = observable_map old _ _ moves.err (λ v told files acting. by_case v files acting told)

-- ---- the actions, one after another

abbrev pub BytesOn : Staging → History → History → Type 0
BytesOn first old h = IfObservable old (λ v. (files : Files) → IsCarryingOutActions first files v → KeepsOldOrNewBytes files v old h)

pub bytes_start : (s : Staging) (old : History) → BytesOn s old old
bytes_start s old = on_observable old _ (λ v rest is files acting base so_far. none_since (ReadsOldOrNewBytesOutsideJournal base files) old)

pub bytes_called : (first now : Staging) (old h new : History) → ActsOn first now old h → BytesOn first old h → BytesOn now h new → BytesOn first old new
bytes_called first now old h new acts bytes more = on_observable old _ (λ v rest is files acting base so_far.
    let since = observable_at old v rest is (λ u. (F : Files) → IsCarryingOutActions first F u → KeepsOldOrNewBytes F u old h) bytes files acting base so_far in
    since_on (ReadsOldOrNewBytesOutsideJournal base files) old h new since
    (by_now h (λ u. IsCarryingOutActions now files u × ReadsOldOrNewBytesOutsideJournal base files u) (Since (ReadsOldOrNewBytesOutsideJournal base files) h new)
    (now_both h (IsCarryingOutActions now files) (ReadsOldOrNewBytesOutsideJournal base files) (observable_at old v rest is (λ u. (F : Files) → IsCarryingOutActions first F u → HoldsNow h (IsCarryingOutActions now F)) acts files acting) (now_since (ReadsOldOrNewBytesOutsideJournal base files) old h v rest is so_far since))
    (observable_map h _ (λ u. IsCarryingOutActions now files u × ReadsOldOrNewBytesOutsideJournal base files u → Since (ReadsOldOrNewBytesOutsideJournal base files) h new) more (λ u t q. t files q.0 base q.1))))

-- ---- the end of a stage

abbrev pub KeepsButIntent : TreeState → TreeState → Type 0
KeepsButIntent = KeepsFilesExcept (λ q. q ≡ intent_name)

intent_same : (v : TreeState) → KeepsButIntent v v
intent_same v q off = refl

intent_on : (a b c : TreeState) → KeepsButIntent a b → KeepsButIntent b c → KeepsButIntent a c
intent_on a b c first then q off = then q off ∙ first q off

intent_removed : (name : List ℕ) → name ≡ intent_name → (v : TreeState) → KeepsButIntent v (after_remove name v)
intent_removed name is v q off = ap (λ (F : Files). F q) (removed_reads v name) ∙ drop_name-off (files_of v) name q (λ e. off (e ∙ is))

pub sync_shown : {T E : Type 0} (old new : History) (r : Result T E) → ChangesHistory IsAlwaysAllowed after_sync_names unchanged_after_failed_call old new r → IfObservable old (λ v. Since (KeepsButIntent v) old new)
sync_shown old new r moves = told_called KeepsButIntent old new r moves (λ v q off. refl) intent_same

pub remove_shown : {T E : Type 0} (name : List ℕ) → name ≡ intent_name → (old new : History) (r : Result T E) → ChangesHistory IsAlwaysAllowed (after_remove name) (after_remove name) old new r → IfObservable old (λ v. Since (KeepsButIntent v) old new)
remove_shown name is old new r moves = told_called KeepsButIntent old new r moves (intent_removed name is) (intent_removed name is)

pub shown_on : (old h new : History) → IfObservable old (λ v. Since (KeepsButIntent v) old h) → IfObservable h (λ u. Since (KeepsButIntent u) h new) → IfObservable old (λ v. Since (KeepsButIntent v) old new)
shown_on = told_on KeepsButIntent intent_same intent_on

kept_bytes : (base files : Files) (u w : TreeState) → ReadsOldOrNewBytesOutsideJournal base files u → KeepsButIntent u w → ReadsOldOrNewBytesOutsideJournal base files w
kept_bytes base files u w so_far keeps q shown = as_before base files u w q (keeps q (λ e. shown (inl e))) (so_far q shown)

-- all actions, and then the end
pub bytes_end : (first : Staging) (old h new : History) → BytesOn first old h → IfObservable h (λ u. Since (KeepsButIntent u) h new) → BytesOn first old new
bytes_end first old h new bytes last = on_observable old _ (λ v rest is files acting base so_far.
    let since = observable_at old v rest is (λ u. (F : Files) → IsCarryingOutActions first F u → KeepsOldOrNewBytes F u old h) bytes files acting base so_far in
    since_on (ReadsOldOrNewBytesOutsideJournal base files) old h new since
    (by_now h (ReadsOldOrNewBytesOutsideJournal base files) (Since (ReadsOldOrNewBytesOutsideJournal base files) h new) (now_since (ReadsOldOrNewBytesOutsideJournal base files) old h v rest is so_far since)
    (observable_map h _ (λ u. ReadsOldOrNewBytesOutsideJournal base files u → Since (ReadsOldOrNewBytesOutsideJournal base files) h new) last (λ u t p. since_weaker (KeepsButIntent u) (ReadsOldOrNewBytesOutsideJournal base files) h new (λ w k. kept_bytes base files u w p k) t))))

-- ---- a recovery

old_bytes : (files : Files) (v : TreeState) → ReadsOldOrNewBytesOutsideJournal (files_of v) files v
old_bytes files v q shown = inl refl

pub found_bytes : (first : Staging) (file : List ℕ) → read_intent file ≡ Some first.intent → first.acted ≡ 0 → (old new : History) → BytesOn first old new
    → IfObservable old (λ v. files_of v intent_name ≡ Some file → v.older ≡ [] → Since (ReadsOldOrNewBytesOutsideJournal (files_of v) (recovered_files (files_of v))) old new)
found_bytes first file spells none old new bytes = observable_map old _ _ bytes (λ v t there one. t (recovered_files (files_of v)) (acting_found first file v there one spells none) (files_of v) (old_bytes (recovered_files (files_of v)) v))

abbrev pub RecoverBytes : History → History → Type 0
RecoverBytes old new = IfObservable old (λ v. Since (ReadsOldOrNewBytesOutsideJournal (files_of v) (recovered_files (files_of v))) old new)

pub recover_bytes_none : (old new : History) → new ≡ old → RecoverBytes old new
recover_bytes_none old new same = on_observable old _ (λ v rest is. no_more (ReadsOldOrNewBytesOutsideJournal (files_of v) (recovered_files (files_of v))) old old new (none_since (ReadsOldOrNewBytesOutsideJournal (files_of v) (recovered_files (files_of v))) old) same)

true_false : true ≡ false → ⊥
true_false e = cc

unstaged_bytes : (F : Files) (w : TreeState) → ReadsOldOrNewBytesOutsideJournal F (recovered_files F) w → ReadsOldOrNewBytesOutsideJournal F (unstaged_files F) w
unstaged_bytes F w so_far q shown = ⊎_elim (λ old. inl old) (λ new. inr (new ∙ by (is_staged q) refl)) (so_far q shown)
  where
    by : (b : Bool) → is_staged q ≡ b → recovered_files F q ≡ cond b None (recovered_files F q)
    by true is = absurd (shown (inr is))
    by false is = refl

abbrev UnstagedBytes : History → History → Type 0
UnstagedBytes old new = IfObservable old (λ v. Since (ReadsOldOrNewBytesOutsideJournal (files_of v) (unstaged_files (files_of v))) old new)

pub replay_bytes : (old mid : History) → RecoverBytes old mid → UnstagedBytes old mid
replay_bytes old mid told = observable_map old _ _ told (λ v t. since_weaker (ReadsOldOrNewBytesOutsideJournal (files_of v) (recovered_files (files_of v))) (ReadsOldOrNewBytesOutsideJournal (files_of v) (unstaged_files (files_of v))) old mid (λ w. unstaged_bytes (files_of v) w) t)

emptied_bytes : (F G : Files) (u w : TreeState) → ReadsOldOrNewBytesOutsideJournal F G u → KeepsShown u w → ReadsOldOrNewBytesOutsideJournal F G w
emptied_bytes F G u w so_far keeps q shown = as_before F G u w q (keeps q (λ staged. shown (inr staged))) (so_far q shown)

pub all_bytes : (old mid new : History) → RecoverBytes old mid → IfObservable mid (λ u. Since (KeepsShown u) mid new) → UnstagedBytes old new
all_bytes old mid new told empties = on_observable old _ (λ v rest is.
    let P = ReadsOldOrNewBytesOutsideJournal (files_of v) (unstaged_files (files_of v)) in
    let since = observable_at old v rest is (λ u. Since (ReadsOldOrNewBytesOutsideJournal (files_of u) (unstaged_files (files_of u))) old mid) (replay_bytes old mid told) in
    since_on P old mid new since
    (by_now mid P (Since P mid new) (now_since P old mid v rest is (old_bytes (unstaged_files (files_of v)) v) since)
    (observable_map mid _ (λ u. P u → Since P mid new) empties (λ u t p. since_weaker (KeepsShown u) P mid new (λ w k. emptied_bytes (files_of v) (unstaged_files (files_of v)) u w p k) t))))
