-- What each call leaves of the files as read.
use Rattle.std.proofs.Common.{◌≡◌, ◌⊎◌, ◌≢◌, inl, inr, ⊎_elim, ℕ, ◌+◌, eqb, Bool, true, false, cond, List, ◌∷◌, [], ◌++◌, length, slice_get, Option, None, Some, Result, Ok, Err, refl, sym, ap, subst, ◌∙◌}
use Rattle.std.specs.List.{All}
use Rattle.std.proofs.lemmas.Bool.{eqb-true}
use Rattle.base_core.specs.Calls.{IfObservable, HoldsNow, ChangesHistory}
use Rattle.base_core.specs.Crash.{Since}
use Rattle.base_core.specs.Files.{drop_name}
use Rattle.base_core.specs.Tree.{TreeState, File, IsWellFormed, after_append, after_create, after_failed_append, after_remove, after_rename, after_sync, after_sync_names, bytes_of_file_number, with_file_changed, files_of, with_file_moved, unchanged_after_failed_call, set_file, IsAlwaysAllowed, CanCreate, HasName}
use Rattle.base_core.proofs.Undone.{read_may_be_left}
use Rattle.journal_core.specs.Acting.{MovesIfPresent}
use Rattle.journal_core.specs.Kept.{IsNameOfNextAction, KeepsFilesExcept}
use Rattle.journal_core.specs.Recovery.{Intent, stage_name}
use Rattle.journal_core.specs.Staged.{IsOnlyNameOfFile}
use Rattle.journal_core.proofs.Chain.{Runs, run_called, run_done, run_failed}
use Rattle.journal_core.proofs.History.{History, observable_at, on_observable}
use Rattle.journal_core.proofs.OneCall.{now_done, now_is, one_called, one_done, whole_now}
use Rattle.journal_core.proofs.Steps.{bytes_of_file_number-set_file, create_alone, create_others, remove_others, set_file-at}
use Rattle.journal_intent.proofs.AtName.{put_name-at, put_name-off, drop_name-off}

-- ---- the newest state behind a call, whatever it answers

module _ {T E : Type 0} {can : TreeState → Type 0} {done failed : TreeState → TreeState} (Q R : TreeState → Type 0) (new : History) where
  pub keep_called : (h : History) (r : Result T E) → HoldsNow h Q → ChangesHistory can done failed h new r → ((v : TreeState) → Q v → R (done v)) → ((v : TreeState) → Q v → R v) → ((v : TreeState) → Q v → R (failed v)) → HoldsNow new R
  keep_called [] r now moves holds stays fails = absurd now
  keep_called (v ∷ h) (Ok x) now moves holds stays fails = now_is new (done v) (v ∷ h) R moves.ok (holds v now)
  keep_called (v ∷ h) (Err e) now moves holds stays fails = ⊎_elim (λ same. now_is new v h R same (stays v now)) (λ more. now_is new (failed v) (v ∷ h) R more.1 (fails v now)) moves.err

-- ---- one step

sync_one : (files : ℕ → File) (n k : ℕ) → (set_file files n (record { bytes = (files n).bytes; synced = true }) k).bytes ≡ (files k).bytes
sync_one files n k = by (eqb k n) refl
  where
    file : File
    file = record { bytes = (files n).bytes; synced = true }

    by : (b : Bool) → eqb k n ≡ b → (set_file files n file k).bytes ≡ (files k).bytes
    by true is = ap (λ (f : File). f.bytes) (set_file-at files n file k (eqb-true k n is)) ∙ ap (λ j. (files j).bytes) (sym (eqb-true k n is))
    by false is = ap (λ b. (cond b file (files k)).bytes) is

sync_bytes : (files : ℕ → File) (n : ℕ) (o : Option ℕ) → bytes_of_file_number (set_file files n (record { bytes = (files n).bytes; synced = true })) o ≡ bytes_of_file_number files o
sync_bytes files n None = refl
sync_bytes files n (Some k) = ap Some (sync_one files n k)

sync_reads_at : (v : TreeState) (o : Option ℕ) (q : List ℕ) → files_of (with_file_changed (λ f. record { bytes = f.bytes; synced = true }) v o) q ≡ files_of v q
sync_reads_at v None q = refl
sync_reads_at v (Some n) q = sync_bytes v.files n (v.names q)

pub moved_others : (from to : List ℕ) (v : TreeState) (o : Option ℕ) (q : List ℕ) → q ≢ from → q ≢ to → files_of (with_file_moved from to v o) q ≡ files_of v q
moved_others from to v None q nf nt = refl
moved_others from to v (Some n) q nf nt = ap (bytes_of_file_number v.files) (put_name-off (drop_name v.names from) to n q nt ∙ drop_name-off v.names from q nf)

change_others : (change : File → File) (name : List ℕ) (v : TreeState) (n : ℕ) → v.names name ≡ Some n → ((q : List ℕ) → v.names q ≡ Some n → q ≡ name) → KeepsFilesExcept (λ q. q ≡ name) v (with_file_changed change v (v.names name))
change_others change name v n there alone q off =
    subst (λ o. files_of (with_file_changed change v o) q ≡ files_of v q) (sym there) (bytes_of_file_number-set_file v.files n (change (v.files n)) (v.names q) (λ is. off (alone q is)))

-- ---- one call

module _ {T E : Type 0} (old new : History) (name place : List ℕ) (name_is : name ≡ place) (r : Result T E) where
  pub create_keeps : ChangesHistory (CanCreate name) (after_create name) (after_create name) old new r → All IsWellFormed old → IfObservable old (λ v. Since (KeepsFilesExcept (λ q. q ≡ place) v) old new)
  create_keeps moves whole = on_observable old _ (λ v rest is.
      let others : KeepsFilesExcept (λ q. q ≡ place) v (after_create name v) = λ q off. create_others name v (whole_now old v rest is whole) q (λ e. off (e ∙ name_is)) in
      one_called old new v rest is (KeepsFilesExcept (λ q. q ≡ place) v) r moves others (λ may. others))

  pub append_keeps : (piece : List ℕ) → ChangesHistory (HasName name) (after_append name piece) (after_failed_append name) old new r → IfObservable old (λ v. IsOnlyNameOfFile place v → Since (KeepsFilesExcept (λ q. q ≡ place) v) old new)
  append_keeps piece moves = on_observable old _ (λ v rest is alone.
      let own : (q : List ℕ) → v.names q ≡ Some alone.number → q ≡ name = λ q at. alone.alone v.names (read_may_be_left v) q at ∙ sym name_is in
      let there : v.names name ≡ Some alone.number = ap v.names name_is ∙ alone.there in
      one_called old new v rest is (KeepsFilesExcept (λ q. q ≡ place) v) r moves
      (λ q off. change_others (λ f. record { bytes = f.bytes ++ piece; synced = false }) name v alone.number there own q (λ e. off (e ∙ name_is)))
      (λ may q off. change_others (λ f. record { bytes = f.bytes; synced = false }) name v alone.number there own q (λ e. off (e ∙ name_is))))

pub sync_keeps : {T E : Type 0} (old new : History) (name : List ℕ) (r : Result T E) → ChangesHistory (HasName name) (after_sync name) unchanged_after_failed_call old new r → IfObservable old (λ v. Since (λ w. files_of w ≡ files_of v) old new)
sync_keeps old new name r moves = on_observable old _ (λ v rest is. one_called old new v rest is (λ w. files_of w ≡ files_of v) r moves (λ i q. sync_reads_at v (v.names name) q i) (λ may. refl))

-- ---- a waiting file is made, filled and synced

record Begun (name : List ℕ) (start v : TreeState) : Type 0 where
  kept : KeepsFilesExcept (λ q. q ≡ name) start v
  number : ℕ
  there : v.names name ≡ Some number
  alone : (q : List ℕ) → v.names q ≡ Some number → q ≡ name

begun_created : (name : List ℕ) (v : TreeState) → IsWellFormed v → Begun name v (after_create name v)
begun_created name v whole = record {
  kept = λ q off. create_others name v whole q off;
  number = v.made;
  there = put_name-at v.names name v.made name refl;
  alone = λ q is. create_alone name v whole (after_create name v).names (read_may_be_left (after_create name v)) q is;
}

begun_changed : (change : File → File) (name : List ℕ) (start v : TreeState) → Begun name start v → Begun name start (with_file_changed change v (v.names name))
begun_changed change name start v b = subst (λ o. Begun name start (with_file_changed change v o)) (sym b.there) (record {
  kept = λ q off. bytes_of_file_number-set_file v.files b.number (change (v.files b.number)) (v.names q) (λ is. off (b.alone q is)) ∙ b.kept q off;
  number = b.number;
  there = b.there;
  alone = b.alone;
})

module _ {T E : Type 0} (name : List ℕ) (v : TreeState) (whole : IsWellFormed v) (old rest : History) (is : old ≡ v ∷ rest) (h : History) (x : T) (first : ChangesHistory {E = E} (CanCreate name) (after_create name) (after_create name) old h (Ok x)) where
  begun_now : HoldsNow h (Begun name v)
  begun_now = now_done old h v rest is (Begun name v) x first (begun_created name v whole)

  abbrev P : TreeState → Type 0
  P = KeepsFilesExcept (λ q. q ≡ name) v

  begun_run : Runs P (Begun name v) old h
  begun_run = record { since = one_done old h v rest is P x first (begun_created name v whole).kept; now = begun_now }

  module _ (piece : List ℕ) (k : History) where
    pub append_keeps_waiting : {T E : Type 0} (e : E) → ChangesHistory {T = T} (HasName name) (after_append name piece) (after_failed_append name) h k (Err e) → Since P old k
    append_keeps_waiting e second = run_failed P (Begun name v) old h k e begun_run second (λ u may b. (begun_changed (λ f. record { bytes = f.bytes; synced = false }) name v u b).kept)

    pub sync_keeps_waiting : {T E A B : Type 0} (new : History) (y : T) (r : Result A B) → ChangesHistory {E = E} (HasName name) (after_append name piece) (after_failed_append name) h k (Ok y) → ChangesHistory (HasName name) (after_sync name) unchanged_after_failed_call k new r
        → Since P old new
    sync_keeps_waiting new y r second last =
        run_called P (Begun name v) old k new r
        (run_done P (Begun name v) (Begun name v) old h k y begun_run second (λ u b. b.kept) (begun_changed (λ f. record { bytes = f.bytes ++ piece; synced = false }) name v))
        last (λ u b. (begun_changed (λ f. record { bytes = f.bytes; synced = true }) name v u b).kept) (λ u may b. b.kept)

-- ---- the newest state keeps them

pub keeps_now : (these : List ℕ → Type 0) (old : History) (v : TreeState) (rest : History) → old ≡ v ∷ rest → HoldsNow old (KeepsFilesExcept these v)
keeps_now these old v rest is = now_is old v rest (KeepsFilesExcept these v) is (λ q off. refl)

module _ {T E : Type 0} (these : List ℕ → Type 0) (start : TreeState) (h new : History) (r : Result T E) (now : HoldsNow h (KeepsFilesExcept these start)) where
  pub keeps_synced : ChangesHistory IsAlwaysAllowed after_sync_names unchanged_after_failed_call h new r → HoldsNow new (KeepsFilesExcept these start)
  keeps_synced moves = keep_called (KeepsFilesExcept these start) (KeepsFilesExcept these start) new h r now moves (λ u k. k) (λ u k. k) (λ u k. k)

  pub keeps_removed : (name : List ℕ) → these name → ChangesHistory IsAlwaysAllowed (after_remove name) (after_remove name) h new r → HoldsNow new (KeepsFilesExcept these start)
  keeps_removed name among moves =
      let step : (u : TreeState) → KeepsFilesExcept these start u → KeepsFilesExcept these start (after_remove name u) = λ u k q off. remove_others name u (u.names name) q (λ e. off (subst these (sym e) among)) ∙ k q off in
      keep_called (KeepsFilesExcept these start) (KeepsFilesExcept these start) new h r now moves step (λ u k. k) step

-- ---- an action

module _ {T E : Type 0} (intent : Intent) (old new : History) (r : Result T E) where
  pub removal_keeps : (i : ℕ) (name : List ℕ) → slice_get intent.removals i ≡ Some name → ChangesHistory IsAlwaysAllowed (after_remove name) (after_remove name) old new r → IfObservable old (λ v. HoldsNow new (KeepsFilesExcept (IsNameOfNextAction intent i) v))
  removal_keeps i name at moves = on_observable old _ (λ v rest is. keeps_removed (IsNameOfNextAction intent i) v old new r (keeps_now (IsNameOfNextAction intent i) old v rest is) name (inl at) moves)

module _ (intent : Intent) (old new : History) (i acted : ℕ) (behind : acted ≡ length intent.removals + i) (place name : List ℕ) (place_is : place ≡ stage_name (i + 1)) (at : slice_get intent.writes i ≡ Some name) where
  abbrev Keeps : TreeState → TreeState → Type 0
  Keeps = KeepsFilesExcept (IsNameOfNextAction intent acted)

  step : (v : TreeState) → Keeps v (after_rename place name v)
  step v q off = moved_others place name v (v.names place) q (λ e. off (inr (i, behind, inr (e ∙ place_is)))) (λ e. off (inr (i, behind, inl (at ∙ ap Some (sym e)))))

  pub move_keeps : {T E : Type 0} (r : Result T E) → MovesIfPresent place name old new r → IfObservable old (λ v. HoldsNow new (Keeps v))
  move_keeps (Ok x) moves = on_observable old _ (λ v rest is. ⊎_elim
      (λ none. now_is new v rest (Keeps v) (none.1 ∙ is) (λ q off. refl))
      (λ more. now_is new (after_rename place name v) old (Keeps v) more (step v))
      (observable_at old v rest is (λ u. ((u.names place ≡ None) × (new ≡ old)) ⊎ (new ≡ after_rename place name u ∷ old)) moves.ok))
  move_keeps (Err e) moves = on_observable old _ (λ v rest is. ⊎_elim
      (λ none. now_is new v rest (Keeps v) (none ∙ is) (λ q off. refl))
      (λ more. now_is new (after_rename place name v) old (Keeps v) more (step v))
      (observable_at old v rest is (λ u. (new ≡ old) ⊎ (new ≡ after_rename place name u ∷ old)) moves.err))

pub same_keeps : (these : List ℕ → Type 0) (old : History) → IfObservable old (λ v. HoldsNow old (KeepsFilesExcept these v))
same_keeps these old = on_observable old _ (λ v rest is. keeps_now these old v rest is)

pub action_keeps_as : (i j : Intent) (a b : ℕ) (old new : History) → i ≡ j → a ≡ b → IfObservable old (λ v. HoldsNow new (KeepsFilesExcept (IsNameOfNextAction i a) v)) → IfObservable old (λ v. HoldsNow new (KeepsFilesExcept (IsNameOfNextAction j b) v))
action_keeps_as i j a b old new intent acted told =
    subst (λ (x : Intent). IfObservable old (λ v. HoldsNow new (KeepsFilesExcept (IsNameOfNextAction x b) v))) intent (subst (λ n. IfObservable old (λ v. HoldsNow new (KeepsFilesExcept (IsNameOfNextAction i n) v))) acted told)
