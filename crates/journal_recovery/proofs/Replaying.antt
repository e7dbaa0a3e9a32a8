-- The intent that is found is done, and nothing is if none is found.
use Rattle.std.proofs.Common.{◌≡◌, ℕ, Bool, List, [], ◌∷◌, Option, Some, None, IsSome, Result, Ok, Err, OnOk, refl, sym, ap, subst, ◌∙◌}
use Rattle.std.specs.Prelude.{IsErrOf, Vec}
use Rattle.std.specs.declared.alloc.Global.{Global}
use Rattle.base_core.specs.declared.cause.Cause.{Cause}
use Rattle.base_core.specs.Tree.{TreeState, File, bytes_of_file_number, files_of}
use Rattle.base_core.specs.Read.{bytes_in}
use Rattle.base_core.specs.Calls.{IfObservable, HoldsNow}
use Rattle.base_core.specs.Crash.{Since}
use Rattle.base_core.specs.Undone.{IsDurable}
use Rattle.journal_core.specs.adb_schema.Soundness.{container_fault_except_contents}
use Rattle.adb_view.specs.declared.tables.Which.TheVariants.{Intent as IntentTable}
use Rattle.journal_core.specs.Kept.{IsAbsentAfterEachCrash, RecoversTo}
use Rattle.journal_core.specs.Recovering.{IsIntentReplayed}
use Rattle.journal_core.specs.Recovery.{EachCrashLeavesStateOf, StateDependsOn, intent_name, intent_in_file, intent_of, recovered_files, files_after_intent}
use Rattle.journal_core.specs.Quiet.{StateIsUnchanged}
use Rattle.journal_core.specs.Staged.{AreJournalPathsFreeAfterReplayIfAny, IsIntentFault}
use Rattle.journal_core.specs.declared.fault.RecoverFault.{RecoverFault}
use Rattle.journal_core.specs.declared.fault.RecoverFault.TheVariants.{IntentBad}
use Rattle.journal_core.proofs.History.{History, no_more, none_since, on_observable, observable_map}
use Rattle.journal_core.proofs.Lasting.{none_gone}
use Rattle.journal_core.proofs.Leaving.{lasts_none, waiting_none}
use Rattle.journal_core.proofs.OldOrNew.{RecoverBytes, recover_bytes_none}
use Rattle.journal_core.proofs.OneCall.{now_is}
use Rattle.journal_recovery.specs.RecoveryContracts.{RefusesOnlyBadIntent, RemovesIntentLast, ReplaysIntent}

abbrev pub Moments : History → History → Type 0
Moments old new = IfObservable old (λ v. (ignored : List ℕ → Bool) → IsDurable (StateDependsOn ignored) v → Since (StateIsUnchanged ignored v) old new)

abbrev pub Reads : History → History → Type 0
Reads old new = IfObservable old (λ v. Since (RecoversTo (recovered_files (files_of v))) old new)

-- an error that refuses no intent
pub record IsOtherError {T : Type 0} (r : Result T RecoverFault) : Type 0 where
  pub error : OnOk r ⊥
  pub other : (cause : Cause) → IsErrOf r (IntentBad cause) → ⊥

pub off_ok : {T E : Type 0} (A : Type 0) (r : Result T E) → OnOk r ⊥ → OnOk r A
off_ok A (Ok x) error = absurd error
off_ok A (Err e) error = tt

both_told : (h : History) (A B C : TreeState → Type 0) → ((v : TreeState) → A v → B v → C v) → IfObservable h A → IfObservable h B → IfObservable h C
both_told [] A B C f a b = tt
both_told (v ∷ h) A B C f a b = f v a b

-- ---- no call changed the tree

module _ (old new : History) (same : new ≡ old) where
  still_none : Moments old new
  still_none = on_observable old _ (λ v rest is ignored is_durable. no_more (StateIsUnchanged ignored v) old old new (none_since (StateIsUnchanged ignored v) old) same)

  reads_none : Reads old new
  reads_none = on_observable old _ (λ v rest is. no_more (RecoversTo (recovered_files (files_of v))) old old new (none_since (RecoversTo (recovered_files (files_of v))) old) same)

  journal_none : RemovesIntentLast old new
  journal_none = record { waiting = waiting_none old new same; last = lasts_none old new same }

  pub idle_none : IfObservable old (λ v. (cause : Cause) → IsIntentFault (files_of v) cause → new ≡ old)
  idle_none = on_observable old _ (λ v rest is cause fault. same)

  module _ {T : Type 0} (r : Result T RecoverFault) where
    replay_ends : OnOk r ⊥ → RefusesOnlyBadIntent old new r → ReplaysIntent old new r
    replay_ends error refusal = record {
      moments = still_none;
      reads = reads_none;
      bytes = recover_bytes_none old new same;
      replayed = on_observable old _ (λ v rest is. off_ok _ r error);
      settled = on_observable old _ (λ v rest is ignored is_durable some. off_ok _ r error);
      journal = journal_none;
      gone = on_observable old _ (λ v rest is some. off_ok _ r error);
      idle = on_observable old _ (λ v rest is none. same);
      refusal = refusal;
    }

    pub replay_stops : IsOtherError r → ReplaysIntent old new r
    replay_stops never = replay_ends never.error (record {
      bad = λ cause is. absurd (never.other cause is);
      good = on_observable old _ (λ v rest is. off_ok _ r never.error);
      bad_idle = idle_none;
      found = λ cause is. absurd (never.other cause is);
    })

    -- the file that is found is refused
    pub replay_refuses : (file : List ℕ) → IfObservable old (λ v. files_of v intent_name ≡ Some file) → OnOk r ⊥ → ((cause : Cause) → IsErrOf r (IntentBad cause) → container_fault_except_contents IntentTable file ≡ Some cause) → ReplaysIntent old new r
    replay_refuses file there error fault = replay_ends error (record {
      bad = λ cause is. (same, observable_map old _ _ there (λ v at. (file, at, fault cause is)));
      good = on_observable old _ (λ v rest is. off_ok _ r error);
      bad_idle = idle_none;
      found = λ cause is. (file, fault cause is);
    })

-- ---- a good file is found

module _ (old new : History) (file : List ℕ) (there : IfObservable old (λ v. files_of v intent_name ≡ Some file)) (sound : container_fault_except_contents IntentTable file ≡ None) where
  idle : IfObservable old (λ v. v.names intent_name ≡ None → new ≡ old)
  idle = observable_map old _ _ there (λ v at none. absurd (let here : files_of v intent_name ≡ None = ap (bytes_of_file_number v.files) none in cc (here, at)))

  good : IfObservable old (λ v. (cause : Cause) → IsIntentFault (files_of v) cause → ⊥)
  good = observable_map old _ _ there (λ v at cause fault.
      let equal : fault.0 ≡ file = cc (at, fault.1) in
      absurd (let again : container_fault_except_contents IntentTable file ≡ Some cause = sym (ap (container_fault_except_contents IntentTable) equal) ∙ fault.2 in cc (again, sound)))

  bad_idle : IfObservable old (λ v. (cause : Cause) → IsIntentFault (files_of v) cause → new ≡ old)
  bad_idle = observable_map old _ _ good (λ v none cause fault. absurd (none cause fault))

  module _ {T : Type 0} (moments : Moments old new) (reads : Reads old new) (bytes : RecoverBytes old new) (journal : RemovesIntentLast old new) where
    pub replay_fails : (r : Result T RecoverFault) → IsOtherError r → ReplaysIntent old new r
    replay_fails r never = record {
      moments = moments;
      reads = reads;
      bytes = bytes;
      replayed = on_observable old _ (λ v rest is. off_ok _ r never.error);
      settled = on_observable old _ (λ v rest is ignored is_durable some. off_ok _ r never.error);
      journal = journal;
      gone = on_observable old _ (λ v rest is some. off_ok _ r never.error);
      idle = idle;
      refusal = record {
        bad = λ cause is. absurd (never.other cause is);
        good = on_observable old _ (λ v rest is. off_ok _ r never.error);
        bad_idle = bad_idle;
        found = λ cause is. absurd (never.other cause is);
      };
    }

    pub replay_done : (x : T) → IfObservable old (λ v. HoldsNow new (IsIntentReplayed v))
        → IfObservable old (λ v. (ignored : List ℕ → Bool) → IsDurable (StateDependsOn ignored) v → HoldsNow new (EachCrashLeavesStateOf ignored (recovered_files (files_of v))))
        → IfObservable new (IsAbsentAfterEachCrash intent_name) → ReplaysIntent {T = T} old new (Ok x)
    replay_done x replayed settled gone = record {
      moments = moments;
      reads = reads;
      bytes = bytes;
      replayed = replayed;
      settled = observable_map old _ _ settled (λ v t ignored is_durable some. t ignored is_durable);
      journal = journal;
      gone = on_observable old _ (λ v rest is some. gone);
      idle = idle;
      refusal = record {
        bad = λ cause is. absurd (cc (is));
        good = good;
        bad_idle = bad_idle;
        found = λ cause is. absurd (cc (is));
      };
    }

-- ---- none is found

module _ (old new : History) (same : new ≡ old) (name : List ℕ) (name_is : name ≡ intent_name) (found : IfObservable old (λ v. None ≡ files_of v name)) where
  abbrev Absent : TreeState → Type 0
  Absent v = files_of v intent_name ≡ None

  absent : IfObservable old Absent
  absent = observable_map old _ Absent found (λ v is. ap (files_of v) (sym name_is) ∙ sym is)

  names_none : (files : ℕ → File) (n : Option ℕ) → bytes_of_file_number files n ≡ None → n ≡ None
  names_none files None e = refl
  names_none files (Some n) e = absurd (cc)

  absent_replayed : IfObservable old (λ v. HoldsNow new (IsIntentReplayed v))
  absent_replayed = on_observable old _ (λ v rest is.
      let none = subst (λ (l : History). IfObservable l Absent) is absent in
      now_is new v rest (IsIntentReplayed v) (same ∙ is) (record { reads = sym (ap (λ o. files_after_intent o (files_of v)) (ap intent_in_file none)); absent = names_none v.files (v.names intent_name) none }))

  absent_settled : IfObservable old (λ v. (ignored : List ℕ → Bool) → IsDurable (StateDependsOn ignored) v → IsSome (intent_of (files_of v)) → HoldsNow new (EachCrashLeavesStateOf ignored (recovered_files (files_of v))))
  absent_settled = observable_map old Absent _ absent (λ v none ignored is_durable some. absurd (let gone : intent_of (files_of v) ≡ None = ap intent_in_file none in cc (gone, some)))

  absent_good : IfObservable old (λ v. (cause : Cause) → IsIntentFault (files_of v) cause → ⊥)
  absent_good = observable_map old Absent _ absent (λ v none cause fault. absurd (let there = fault.1 in cc (none, there)))

  pub replay_nothing : {T : Type 0} (x : T) → ReplaysIntent {T = T} old new (Ok x)
  replay_nothing x = record {
    moments = still_none old new same;
    reads = reads_none old new same;
    bytes = recover_bytes_none old new same;
    replayed = absent_replayed;
    settled = absent_settled;
    journal = journal_none old new same;
    gone = none_gone old new name name_is found;
    idle = on_observable old _ (λ v rest is none. same);
    refusal = record {
      bad = λ cause is. absurd (cc (is));
      good = absent_good;
      bad_idle = idle_none old new same;
      found = λ cause is. absurd (cc (is));
    };
  }

-- ---- as the reading tells it, which changed nothing

module _ (old mid : History) (same : mid ≡ old) where
  pub found_there : (name file : List ℕ) → name ≡ intent_name → IfObservable old (λ v. Some file ≡ files_of v name) → IfObservable mid (λ v. files_of v intent_name ≡ Some file)
  found_there name file name_is found =
      subst (λ (l : History). IfObservable l (λ v. files_of v intent_name ≡ Some file)) (sym same) (observable_map old _ _ found (λ v is. ap (files_of v) (sym name_is) ∙ sym is))

  pub replay_behind : {T : Type 0} (new : History) (r : Result T RecoverFault) → ReplaysIntent mid new r → ReplaysIntent old new r
  replay_behind new r replay = subst (λ (l : History). ReplaysIntent l new r) same replay

  pub proper_behind : (a b c : ℕ) → IfObservable old (λ v. b ≡ a) → IfObservable mid (λ v. AreJournalPathsFreeAfterReplayIfAny (files_of v) → c ≡ b) → IfObservable old (λ v. AreJournalPathsFreeAfterReplayIfAny (files_of v) → c ≡ a)
  proper_behind a b c first told = both_told old (λ v. b ≡ a) (λ v. AreJournalPathsFreeAfterReplayIfAny (files_of v) → c ≡ b) _ (λ v x t free. t free ∙ x) first
      (subst (λ (l : History). IfObservable l (λ v. AreJournalPathsFreeAfterReplayIfAny (files_of v) → c ≡ b)) same told)

pub some_found : (old : History) (name : List ℕ) (o : Option (Vec ℕ Global)) (file : Vec ℕ Global) → IfObservable old (λ v. bytes_in o ≡ files_of v name) → o ≡ Some file → IfObservable old (λ v. Some file.items ≡ files_of v name)
some_found old name o file told is = subst (λ (x : Option (Vec ℕ Global)). IfObservable old (λ v. bytes_in x ≡ files_of v name)) is told

pub none_found : (old : History) (name : List ℕ) (o : Option (Vec ℕ Global)) → IfObservable old (λ v. bytes_in o ≡ files_of v name) → o ≡ None → IfObservable old (λ v. None ≡ files_of v name)
none_found old name o told is = subst (λ (x : Option (Vec ℕ Global)). IfObservable old (λ v. bytes_in x ≡ files_of v name)) is told
