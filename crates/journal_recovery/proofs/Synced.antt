-- What holds from a state on in which the names are synced holds from the state before it on.
use Rattle.std.proofs.Common.{◌≡◌, inl, ℕ, eqb, Bool, true, false, List, [], ◌∷◌, None, Some, IsSome, Result, Ok, Err, OnOk, length, refl, ap, ◌∙◌, arith}
use Rattle.base_core.specs.Calls.{IfObservable, HoldsNow, IsCounted, ChangesHistory}
use Rattle.base_core.specs.Crash.{Since}
use Rattle.base_core.specs.Faults.{Counts}
use Rattle.base_core.specs.Files.{NameMap}
use Rattle.base_core.proofs.Undone.{read_may_be_left}
use Rattle.base_core.specs.Tree.{TreeState, IsAlwaysAllowed, after_sync_names, files_of, unchanged_after_failed_call}
use Rattle.base_core.specs.Undone.{IsDurable}
use Rattle.journal_core.specs.Kept.{ReadsOldOrNewBytesOutsideJournal, IsAbsentAfterEachCrash, KeepsFilesExcept, RecoversTo, NamesOutsideJournalAreDurable}
use Rattle.journal_core.specs.Quiet.{StateIsUnchanged}
use Rattle.journal_core.specs.Recovering.{AreStagedNames, IsIntentReplayed, HasRemovedNames}
use Rattle.journal_core.specs.Recovery.{EachCrashLeavesStateOf, StateDependsOn, intent_name, is_staged, recovered_files}
use Rattle.journal_core.specs.Staged.{AreJournalPathsFreeAfterReplayIfAny}
use Rattle.journal_core.proofs.Acts.{still_on, sync_still}
use Rattle.journal_core.proofs.Changes.{gone_synced}
use Rattle.journal_core.proofs.History.{History, none_since, now_map, observable_at, observable_map, on_observable, one_more, since_on, since_weaker}
use Rattle.journal_core.proofs.Lasting.{some_none}
use Rattle.journal_core.proofs.OldOrNew.{RecoverBytes}
use Rattle.journal_core.proofs.OneCall.{one_called, one_proper}
use Rattle.journal_core.proofs.Waiting.{still_self}
use Rattle.journal_recovery.proofs.Replaying.{Moments, Reads}

-- the call alone, whatever it answers
module _ {T E : Type 0} (old new : History) (r : Result T E) (moves : ChangesHistory IsAlwaysAllowed after_sync_names unchanged_after_failed_call old new r) where
  sync_keeps : (R : TreeState → TreeState → Type 0) → ((v : TreeState) → R v (after_sync_names v)) → ((v : TreeState) → R v v) → IfObservable old (λ v. Since (R v) old new)
  sync_keeps R done same = on_observable old _ (λ v rest is. one_called old new v rest is (R v) r moves (done v) (λ may. same v))

  pub sync_moments : IfObservable old (λ v. (ignored : List ℕ → Bool) → IsDurable (StateDependsOn ignored) v → Since (StateIsUnchanged ignored v) old new)
  sync_moments = on_observable old _ (λ v rest is ignored is_durable. one_called old new v rest is (StateIsUnchanged ignored v) r moves (sync_still ignored v is_durable) (λ may. still_self ignored v is_durable))

  pub sync_shown : IfObservable old (λ v. Since (KeepsFilesExcept (λ q. is_staged q ≡ true) v) old new)
  sync_shown = sync_keeps (KeepsFilesExcept (λ q. is_staged q ≡ true)) (λ v q off. refl) (λ v q off. refl)

  pub sync_last : IfObservable old (λ v. NamesOutsideJournalAreDurable v → Since NamesOutsideJournalAreDurable old new)
  sync_last = on_observable old _ (λ v rest is last. one_called old new v rest is NamesOutsideJournalAreDurable r moves (λ map left q off shown. ap (λ (m : NameMap). m q) left) (λ may. last))

  pub sync_reads : IfObservable old (λ v. Since (RecoversTo (recovered_files (files_of v))) old new)
  sync_reads = on_observable old _ (λ v rest is. one_called old new v rest is (RecoversTo (recovered_files (files_of v))) r moves refl (λ may. refl))

  pub sync_bytes : IfObservable old (λ v. Since (ReadsOldOrNewBytesOutsideJournal (files_of v) (recovered_files (files_of v))) old new)
  sync_bytes = on_observable old _ (λ v rest is. one_called old new v rest is (ReadsOldOrNewBytesOutsideJournal (files_of v) (recovered_files (files_of v))) r moves (λ q shown. inl refl) (λ may q shown. inl refl))

  pub sync_lasts : IfObservable old (λ v. IsSome (v.names intent_name) → Since (λ w. w.names intent_name ≡ None → NamesOutsideJournalAreDurable w) old new)
  sync_lasts = on_observable old _ (λ v rest is some.
      let read : (none : v.names intent_name ≡ None) → NamesOutsideJournalAreDurable v = λ none. absurd (some_none (v.names intent_name) none some) in
      one_called old new v rest is (λ w. w.names intent_name ≡ None → NamesOutsideJournalAreDurable w) r moves (λ none map left q off shown. ap (λ (m : NameMap). m q) left) (λ may. read))

pub sync_proper : {T E : Type 0} (old : History) (before now : Counts) (r : Result T E) → IsCounted IsAlwaysAllowed old before now r → IfObservable old (λ v. now.misuses ≡ before.misuses)
sync_proper old before now r counted = on_observable old _ (λ v rest is. one_proper old v rest is before now r counted tt)

-- the call, and what follows it
module _ {T E : Type 0} (old mid new : History) (x : T) (moves : ChangesHistory {E = E} IsAlwaysAllowed after_sync_names unchanged_after_failed_call old mid (Ok x)) where
  mid_is : (v : TreeState) (rest : History) → old ≡ v ∷ rest → mid ≡ after_sync_names v ∷ old
  mid_is v rest is = observable_at old v rest is (λ u. mid ≡ after_sync_names u ∷ old) moves.ok

  at_mid : (v : TreeState) (rest : History) → old ≡ v ∷ rest → (B : TreeState → Type 0) → IfObservable mid B → B (after_sync_names v)
  at_mid v rest is B told = observable_at mid (after_sync_names v) old (mid_is v rest is) B told

  after : (P : TreeState → Type 0) (v : TreeState) (rest : History) → old ≡ v ∷ rest → P (after_sync_names v) → Since P mid new → Since P old new
  after P v rest is here since = since_on P old mid new (one_more P old old mid (after_sync_names v) (none_since P old) (mid_is v rest is) here) since

  pub then_lasts : IfObservable mid (λ u. IsSome (u.names intent_name) → Since (λ w. w.names intent_name ≡ None → NamesOutsideJournalAreDurable w) mid new) → IfObservable old (λ v. IsSome (v.names intent_name) → Since (λ w. w.names intent_name ≡ None → NamesOutsideJournalAreDurable w) old new)
  then_lasts told = on_observable old _ (λ v rest is some.
      after (λ w. w.names intent_name ≡ None → NamesOutsideJournalAreDurable w) v rest is (λ none. absurd (some_none (v.names intent_name) none some))
      (at_mid v rest is (λ u. IsSome (u.names intent_name) → Since (λ w. w.names intent_name ≡ None → NamesOutsideJournalAreDurable w) mid new) told some))

-- ---- a file under the intent's name, read where no crash undoes a change of names

module _ {T E : Type 0} (file : List ℕ) (old mid new : History) (x : T) (moves : ChangesHistory {E = E} IsAlwaysAllowed after_sync_names unchanged_after_failed_call old mid (Ok x)) (there : IfObservable old (λ v. files_of v intent_name ≡ Some file)) where
  abbrev IsFound : TreeState → Type 0
  IsFound v = files_of v intent_name ≡ Some file

  at_start : (v : TreeState) (rest : History) → old ≡ v ∷ rest → IsFound v
  at_start v rest is = observable_at old v rest is IsFound there

  pub found_moments : IfObservable mid (λ u. (ignored : List ℕ → Bool) → IsDurable (StateDependsOn ignored) u → IsFound u → u.older ≡ [] → Since (StateIsUnchanged ignored u) mid new) → Moments old new
  found_moments told = on_observable old _ (λ v rest is ignored is_durable.
      let still = sync_still ignored v is_durable in
      let since = at_mid old mid new x moves v rest is (λ u. (Y : List ℕ → Bool) → IsDurable (StateDependsOn Y) u → IsFound u → u.older ≡ [] → Since (StateIsUnchanged Y u) mid new) told ignored still.is_durable (at_start v rest is) refl in
      after old mid new x moves (StateIsUnchanged ignored v) v rest is still (since_weaker (StateIsUnchanged ignored (after_sync_names v)) (StateIsUnchanged ignored v) mid new (λ w. still_on ignored v (after_sync_names v) w still) since))

  found_since : (S : TreeState → TreeState → Type 0) → ((v : TreeState) → S v (after_sync_names v)) → ((v w : TreeState) → S (after_sync_names v) w → S v w)
      → IfObservable mid (λ u. IsFound u → u.older ≡ [] → Since (S u) mid new) → IfObservable old (λ v. Since (S v) old new)
  found_since S here same told = on_observable old _ (λ v rest is.
      after old mid new x moves (S v) v rest is (here v)
      (since_weaker (S (after_sync_names v)) (S v) mid new (same v) (at_mid old mid new x moves v rest is (λ u. IsFound u → u.older ≡ [] → Since (S u) mid new) told (at_start v rest is) refl)))

  pub found_reads : IfObservable mid (λ u. IsFound u → u.older ≡ [] → Since (RecoversTo (recovered_files (files_of u))) mid new) → Reads old new
  found_reads told = found_since (λ v. RecoversTo (recovered_files (files_of v))) (λ v. refl) (λ v w r. r) told

  pub found_bytes : IfObservable mid (λ u. IsFound u → u.older ≡ [] → Since (ReadsOldOrNewBytesOutsideJournal (files_of u) (recovered_files (files_of u))) mid new) → RecoverBytes old new
  found_bytes told = found_since (λ v. ReadsOldOrNewBytesOutsideJournal (files_of v) (recovered_files (files_of v))) (λ v q shown. inl refl) (λ v w b. b) told

  pub found_replayed : IfObservable mid (λ u. IsFound u → u.older ≡ [] → HoldsNow new (IsIntentReplayed u)) → IfObservable old (λ v. HoldsNow new (IsIntentReplayed v))
  found_replayed told = on_observable old _ (λ v rest is.
      now_map new (IsIntentReplayed (after_sync_names v)) (IsIntentReplayed v) (at_mid old mid new x moves v rest is (λ u. IsFound u → u.older ≡ [] → HoldsNow new (IsIntentReplayed u)) told (at_start v rest is) refl) (λ w r. record { reads = r.reads; absent = r.absent }))

  pub found_settled : IfObservable mid (λ u. (ignored : List ℕ → Bool) → IsDurable (StateDependsOn ignored) u → IsFound u → u.older ≡ [] → HoldsNow new (EachCrashLeavesStateOf ignored (recovered_files (files_of u))))
      → IfObservable old (λ v. (ignored : List ℕ → Bool) → IsDurable (StateDependsOn ignored) v → HoldsNow new (EachCrashLeavesStateOf ignored (recovered_files (files_of v))))
  found_settled told = on_observable old _ (λ v rest is ignored is_durable.
      at_mid old mid new x moves v rest is (λ u. (Y : List ℕ → Bool) → IsDurable (StateDependsOn Y) u → IsFound u → u.older ≡ [] → HoldsNow new (EachCrashLeavesStateOf Y (recovered_files (files_of u)))) told ignored (sync_still ignored v is_durable).is_durable (at_start v rest is) refl)

  pub found_proper : (a b c : ℕ) → IfObservable old (λ v. b ≡ a) → IfObservable mid (λ u. IsFound u → u.older ≡ [] → AreJournalPathsFreeAfterReplayIfAny (files_of u) → c ≡ b) → IfObservable old (λ v. AreJournalPathsFreeAfterReplayIfAny (files_of v) → c ≡ a)
  found_proper a b c first told = on_observable old _ (λ v rest is room.
      at_mid old mid new x moves v rest is (λ u. IsFound u → u.older ≡ [] → AreJournalPathsFreeAfterReplayIfAny (files_of u) → c ≡ b) told (at_start v rest is) refl room ∙ observable_at old v rest is (λ u. b ≡ a) first)

-- only the call itself
pub alone_proper : (old : History) (a b : ℕ) → IfObservable old (λ v. b ≡ a) → IfObservable old (λ v. AreJournalPathsFreeAfterReplayIfAny (files_of v) → b ≡ a)
alone_proper old a b told = observable_map old _ _ told (λ v t room. t)

-- ---- names are removed

module _ {T E : Type 0} (names : List (List ℕ)) (old mid new : History) (x : T) (moves : ChangesHistory {E = E} IsAlwaysAllowed after_sync_names unchanged_after_failed_call old mid (Ok x)) where
  pub clear_moments : IfObservable mid (λ u. (ignored : List ℕ → Bool) → IsDurable (StateDependsOn ignored) u → IsAbsentAfterEachCrash intent_name u → AreStagedNames names → Since (StateIsUnchanged ignored u) mid new)
      → IfObservable old (λ v. (ignored : List ℕ → Bool) → IsDurable (StateDependsOn ignored) v → v.names intent_name ≡ None → AreStagedNames names → Since (StateIsUnchanged ignored v) old new)
  clear_moments told = on_observable old _ (λ v rest is ignored is_durable none staged.
      let still = sync_still ignored v is_durable in
      let since = at_mid old mid new x moves v rest is (λ u. (Y : List ℕ → Bool) → IsDurable (StateDependsOn Y) u → IsAbsentAfterEachCrash intent_name u → AreStagedNames names → Since (StateIsUnchanged Y u) mid new) told ignored still.is_durable (gone_synced intent_name v none) staged in
      after old mid new x moves (StateIsUnchanged ignored v) v rest is still (since_weaker (StateIsUnchanged ignored (after_sync_names v)) (StateIsUnchanged ignored v) mid new (λ w. still_on ignored v (after_sync_names v) w still) since))

  pub clear_shown : IfObservable mid (λ u. AreStagedNames names → Since (KeepsFilesExcept (λ q. is_staged q ≡ true) u) mid new) → IfObservable old (λ v. AreStagedNames names → Since (KeepsFilesExcept (λ q. is_staged q ≡ true) v) old new)
  clear_shown told = on_observable old _ (λ v rest is staged.
      after old mid new x moves (KeepsFilesExcept (λ q. is_staged q ≡ true) v) v rest is (λ q off. refl)
      (at_mid old mid new x moves v rest is (λ u. AreStagedNames names → Since (KeepsFilesExcept (λ q. is_staged q ≡ true) u) mid new) told staged))

  synced_last : (v : TreeState) → NamesOutsideJournalAreDurable (after_sync_names v)
  synced_last v map left q off shown = ap (λ (m : NameMap). m q) left

  pub clear_last : IfObservable mid (λ u. AreStagedNames names → NamesOutsideJournalAreDurable u → Since NamesOutsideJournalAreDurable mid new) → IfObservable old (λ v. AreStagedNames names → NamesOutsideJournalAreDurable v → Since NamesOutsideJournalAreDurable old new)
  clear_last told = on_observable old _ (λ v rest is staged last.
      after old mid new x moves NamesOutsideJournalAreDurable v rest is (synced_last v)
      (at_mid old mid new x moves v rest is (λ u. AreStagedNames names → NamesOutsideJournalAreDurable u → Since NamesOutsideJournalAreDurable mid new) told staged (synced_last v)))

  pub clear_cleared : {A B : Type 0} (r : Result A B) → IfObservable mid (λ u. OnOk r (HoldsNow new (HasRemovedNames names u))) → IfObservable old (λ v. OnOk r (HoldsNow new (HasRemovedNames names v)))
  clear_cleared (Err e) told = on_observable old _ (λ v rest is. tt)
  clear_cleared (Ok y) told = on_observable old _ (λ v rest is.
      now_map new (HasRemovedNames names (after_sync_names v)) (HasRemovedNames names v) (at_mid old mid new x moves v rest is (λ u. HoldsNow new (HasRemovedNames names u)) told) (λ w r. record { map = r.map; files = r.files }))

  pub clear_gone : {A B : Type 0} (r : Result A B) → IfObservable mid (λ u. OnOk r (IsAbsentAfterEachCrash intent_name u → HoldsNow new (IsAbsentAfterEachCrash intent_name))) → IfObservable old (λ v. OnOk r (IsAbsentAfterEachCrash intent_name v → HoldsNow new (IsAbsentAfterEachCrash intent_name)))
  clear_gone (Err e) told = on_observable old _ (λ v rest is. tt)
  clear_gone (Ok y) told = on_observable old _ (λ v rest is away.
      at_mid old mid new x moves v rest is (λ u. IsAbsentAfterEachCrash intent_name u → HoldsNow new (IsAbsentAfterEachCrash intent_name)) told (gone_synced intent_name v (away v.names (read_may_be_left v))))

  pub clear_proper : (a b c : ℕ) → IfObservable old (λ v. b ≡ a) → IfObservable mid (λ u. c ≡ b) → IfObservable old (λ v. c ≡ a)
  clear_proper a b c first told = on_observable old _ (λ v rest is. at_mid old mid new x moves v rest is (λ u. c ≡ b) told ∙ observable_at old v rest is (λ u. b ≡ a) first)

-- there are none
module _ (names : List (List ℕ)) (old : History) where
  pub none_moments : IfObservable old (λ v. (ignored : List ℕ → Bool) → IsDurable (StateDependsOn ignored) v → v.names intent_name ≡ None → AreStagedNames names → Since (StateIsUnchanged ignored v) old old)
  none_moments = on_observable old _ (λ v rest is ignored is_durable none staged. none_since (StateIsUnchanged ignored v) old)

  pub none_shown : IfObservable old (λ v. AreStagedNames names → Since (KeepsFilesExcept (λ q. is_staged q ≡ true) v) old old)
  none_shown = on_observable old _ (λ v rest is staged. none_since (KeepsFilesExcept (λ q. is_staged q ≡ true) v) old)

  pub none_last : IfObservable old (λ v. AreStagedNames names → NamesOutsideJournalAreDurable v → Since NamesOutsideJournalAreDurable old old)
  none_last = on_observable old _ (λ v rest is staged last. none_since NamesOutsideJournalAreDurable old)

-- some were to be removed
module _ (names : List (List ℕ)) (old mid : History) where
  pub begun_moments : IfObservable old (λ v. (ignored : List ℕ → Bool) → IsDurable (StateDependsOn ignored) v → Since (StateIsUnchanged ignored v) old mid)
      → IfObservable old (λ v. (ignored : List ℕ → Bool) → IsDurable (StateDependsOn ignored) v → v.names intent_name ≡ None → AreStagedNames names → Since (StateIsUnchanged ignored v) old mid)
  begun_moments told = observable_map old _ _ told (λ v t ignored is_durable none staged. t ignored is_durable)

  pub begun_shown : IfObservable old (λ v. Since (KeepsFilesExcept (λ q. is_staged q ≡ true) v) old mid) → IfObservable old (λ v. AreStagedNames names → Since (KeepsFilesExcept (λ q. is_staged q ≡ true) v) old mid)
  begun_shown told = observable_map old _ _ told (λ v t staged. t)

  pub begun_last : IfObservable old (λ v. NamesOutsideJournalAreDurable v → Since NamesOutsideJournalAreDurable old mid) → IfObservable old (λ v. AreStagedNames names → NamesOutsideJournalAreDurable v → Since NamesOutsideJournalAreDurable old mid)
  begun_last told = observable_map old _ _ told (λ v t staged. t)

pub names_none : (names : List (List ℕ)) → length names ≡ 0 → names ≡ []
names_none [] none = refl
names_none (n ∷ ns) none = absurd (omega (arith, none))

pub not_none : (names : List (List ℕ)) → eqb (length names) 0 ≡ false → names ≡ [] → ⊥
not_none [] some e = absurd (cc (some))
not_none (n ∷ ns) some e = absurd (cc (e))
