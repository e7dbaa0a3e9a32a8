-- What the parts of a recovery ensure: `recover`, `replay` and `replay_file`, which do the actions of an
-- intent, and `empty_stage`, `clear_all` and `remove_all`, which remove staged files. Serves the contracts of
-- these functions. The rules are in `docs/crash-safety.md`, "Recovery" and "Misuses, faults and counts".
use Rattle.std.specs.Prelude.{◌≡◌, ℕ, Bool, true, List, [], Some, None, IsSome, Result, OnOk, IsErrOf}
use Rattle.adb_view.specs.declared.tables.Which.TheVariants.{Intent as IntentTable}
use Rattle.base_core.specs.Calls.{HoldsNow, IfObservable}
use Rattle.base_core.specs.Crash.{Since}
use Rattle.base_core.specs.Faults.{Counts, CountsOnlyRise, CountsNewFaultWithCause, CountsNoNewFaultOrLackOfMemory}
use Rattle.base_core.specs.Tree.{TreeState, files_of}
use Rattle.base_core.specs.Undone.{IsDurable}
use Rattle.base_core.specs.declared.cause.Cause.{Cause}
use Rattle.journal_core.specs.adb_schema.Soundness.{container_fault_except_contents}
use Rattle.journal_core.specs.Kept.{ReadsOldOrNewBytesOutsideJournal, IsAbsentAfterEachCrash, JournalOnlyShrinks, KeepsFilesExcept, NamesOutsideJournalAreDurable, RecoversTo}
use Rattle.journal_core.specs.Quiet.{StateIsUnchanged}
use Rattle.journal_core.specs.Recovering.{AreStagedNames, HasEmptiedStage, HasRemovedNames, IsIntentReplayed}
use Rattle.journal_core.specs.Recovery.{EachCrashLeavesStateOf, StateDependsOn, intent_name, intent_of, is_staged, recovered_files}
use Rattle.journal_core.specs.Staged.{HasNoStagedNames, IsIntentFault}
use Rattle.journal_core.specs.declared.fault.RecoverFault.{RecoverFault}
use Rattle.journal_core.specs.declared.fault.RecoverFault.TheVariants.{Disk, IntentBad, Memory}

-- whatever a recovery returns, the intent and the staged files are only removed, and the intent is removed last
pub record RemovesIntentLast (old now : List TreeState) : Type 0 where
  -- at each moment the intent and each staged file are unchanged or gone
  pub waiting : IfObservable old (λ v. Since (JournalOnlyShrinks v) old now)
  -- if the intent is present at the start: at each moment at which it is absent, no crash undoes a change of a name
  -- outside the journal
  pub last : IfObservable old (λ v. IsSome (v.names intent_name)
      → Since (λ w. w.names intent_name ≡ None → NamesOutsideJournalAreDurable w) old now)

-- A recovery refuses the intent only if its file is no intent container. If there is such a file, nothing changes,
-- whatever the recovery returns.
pub record RefusesOnlyBadIntent {T : Type 0} (old now : List TreeState)
    (result : Result T RecoverFault) : Type 0 where
  -- if the intent is refused, nothing has changed, and the file of the intent has this fault
  pub bad : (cause : Cause) → IsErrOf result (IntentBad cause)
      → (now ≡ old) × IfObservable old (λ v. IsIntentFault (files_of v) cause)
  -- Ok is returned only if the file of the intent has no fault
  pub good : IfObservable old (λ v. OnOk result ((cause : Cause) → IsIntentFault (files_of v) cause → ⊥))
  -- if the file of the intent has a fault, nothing changes
  pub bad_idle : IfObservable old (λ v. (cause : Cause) → IsIntentFault (files_of v) cause → now ≡ old)
  -- the refusal's cause is the fault of some file, even if the tree is not observable
  pub found : (cause : Cause) → IsErrOf result (IntentBad cause)
      → (file : List ℕ) × (container_fault_except_contents IntentTable file ≡ Some cause)

-- What a replay ensures, which does all actions of the intent and removes it, if there is one. `old` and `now` are the
-- histories of the tree before and after it.
pub record ReplaysIntent {T : Type 0} (old now : List TreeState) (result : Result T RecoverFault) :
    Type 0 where
  -- from a durable tree on, each moment is durable, and the state is unchanged
  pub moments : IfObservable old (λ v. (ignored : List ℕ → Bool)
      → IsDurable (StateDependsOn ignored) v → Since (StateIsUnchanged ignored v) old now)
  -- at each moment recovery of the files as read yields the same files as at the start
  pub reads : IfObservable old (λ v. Since (RecoversTo (recovered_files (files_of v))) old now)
  -- at each moment a name outside the journal has, as read, its old bytes or those that recovery yields
  pub bytes : IfObservable old (λ v.
      Since (ReadsOldOrNewBytesOutsideJournal (files_of v) (recovered_files (files_of v))) old now)
  -- once Ok is returned, all actions of the intent are done, and no intent is read
  pub replayed : IfObservable old (λ v. OnOk result (HoldsNow now (IsIntentReplayed v)))
  -- from a durable tree with an intent: once Ok is returned, each crash leaves the state that recovery yields
  pub settled : IfObservable old (λ v. (ignored : List ℕ → Bool)
      → IsDurable (StateDependsOn ignored) v → IsSome (intent_of (files_of v))
      → OnOk result (HoldsNow now (EachCrashLeavesStateOf ignored (recovered_files (files_of v)))))
  -- staged files are only removed, and the intent is removed last
  pub journal : RemovesIntentLast old now
  -- if an intent was found: once Ok is returned, no crash restores it
  pub gone : IfObservable old (λ v. IsSome (v.names intent_name)
      → OnOk result (IfObservable now (IsAbsentAfterEachCrash intent_name)))
  -- if there is no intent, the history is unchanged
  pub idle : IfObservable old (λ v. v.names intent_name ≡ None → now ≡ old)
  -- the intent is refused only if its file is no intent container
  pub refusal : RefusesOnlyBadIntent old now result

-- What a call ensures that removes all staged files. `old` and `now` are the histories of the tree before and after it.
pub record EmptiesStage {T E : Type 0} (old now : List TreeState) (result : Result T E) : Type 0 where
  -- from a durable tree without an intent on, each moment is durable, and the state is unchanged
  pub moments : IfObservable old (λ v. (ignored : List ℕ → Bool)
      → IsDurable (StateDependsOn ignored) v → v.names intent_name ≡ None
      → Since (StateIsUnchanged ignored v) old now)
  -- at each moment only staged files have changed
  pub shown : IfObservable old (λ v. Since (KeepsFilesExcept (λ q. is_staged q ≡ true) v) old now)
  -- at each moment the intent and each staged file are unchanged or gone
  pub waiting : IfObservable old (λ v. Since (JournalOnlyShrinks v) old now)
  -- no crash undoes a change of a name outside the journal, if none could at the start
  pub last : IfObservable old (λ v. NamesOutsideJournalAreDurable v
      → Since NamesOutsideJournalAreDurable old now)
  -- once Ok is returned, no file is staged, and no other name has changed
  pub emptied : IfObservable old (λ v. OnOk result (HoldsNow now (HasEmptiedStage v)))
  -- once Ok is returned, no crash restores an intent, if none could at the start
  pub gone : IfObservable old (λ v. OnOk result (IsAbsentAfterEachCrash intent_name v
      → HoldsNow now (IsAbsentAfterEachCrash intent_name)))
  -- if no file is staged, the history is unchanged
  pub idle : IfObservable old (λ v. HasNoStagedNames v.names → now ≡ old)

-- how the tree's counts before a recovery (`before`) and after it (`now`) explain its result
pub record IsRecoveryExplainedByCounts {T : Type 0} (before now : Counts)
    (result : Result T RecoverFault) : Type 0 where
  -- no count of faults falls
  pub goes_on : CountsOnlyRise before now
  -- an I/O error is returned only if the count of faults rose, and the counts give it a cause
  pub disk : IsErrOf result Disk → CountsNewFaultWithCause before now
  -- Ok is returned only if no fault was counted
  pub kept : OnOk result (CountsNoNewFaultOrLackOfMemory before now)
  -- `Memory` is returned only if no fault was counted
  pub memory : IsErrOf result Memory → CountsNoNewFaultOrLackOfMemory before now
  -- the intent is refused only if no fault was counted
  pub refused : (cause : Cause) → IsErrOf result (IntentBad cause)
      → CountsNoNewFaultOrLackOfMemory before now

-- what a call ensures that removes these names; they should all be in the staging area
pub record RemovesStagedNames {T E : Type 0} (names : List (List ℕ)) (old now : List TreeState)
    (result : Result T E) : Type 0 where
  -- if all names are in the staging area, the files as read are unchanged under each name outside it
  pub shown : IfObservable old (λ v. AreStagedNames names
      → Since (KeepsFilesExcept (λ q. is_staged q ≡ true) v) old now)
  -- at each moment the intent and each staged file are unchanged or gone
  pub waiting : IfObservable old (λ v. Since (JournalOnlyShrinks v) old now)
  -- if all names are in the staging area, and no crash could undo a change of a name outside the journal at the
  -- start, none can at any moment
  pub last : IfObservable old (λ v. AreStagedNames names → NamesOutsideJournalAreDurable v
      → Since NamesOutsideJournalAreDurable old now)
  -- once Ok is returned, the names lead to no file, and nothing else has changed
  pub cleared : IfObservable old (λ v. OnOk result (HoldsNow now (HasRemovedNames names v)))
  -- once Ok is returned, no crash restores an intent, if none could at the start
  pub gone : IfObservable old (λ v. OnOk result (IsAbsentAfterEachCrash intent_name v
      → HoldsNow now (IsAbsentAfterEachCrash intent_name)))
  -- if there are no names to be removed, the history is unchanged
  pub none : names ≡ [] → now ≡ old
