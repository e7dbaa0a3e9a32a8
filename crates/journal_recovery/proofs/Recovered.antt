-- A recovery: a replay, and then the staged files are removed.
use Rattle.std.proofs.Common.{◌≡◌, ℕ, Bool, List, None, IsSome, Result, Ok, Err, OnOk, ◌∙◌}
use Rattle.std.specs.Prelude.{IsErrOf}
use Rattle.base_core.specs.declared.cause.Cause.{Cause}
use Rattle.base_core.specs.Calls.{IfObservable, HoldsNow}
use Rattle.base_core.specs.Faults.{Counts, CountsOnlyRise, CountsNoNewFaultOrLackOfMemory}
use Rattle.base_core.specs.Tree.{files_of}
use Rattle.base_core.specs.Undone.{IsDurable}
use Rattle.base_core.proofs.Counting.{cause_later, goes_on_twice, no_fault_twice}
use Rattle.journal_core.specs.Kept.{IsAbsentAfterEachCrash}
use Rattle.journal_core.specs.Recovering.{IsIntentReplayed}
use Rattle.journal_core.specs.Recovery.{EachCrashLeavesStateOf, StateDependsOn, intent_name, intent_of}
use Rattle.journal_core.specs.Staged.{AreJournalPathsFreeAfterReplayIfAny, HasNoStagedNames, unstaged_files}
use Rattle.journal_core.specs.declared.fault.RecoverFault.{RecoverFault}
use Rattle.journal_core.specs.declared.fault.RecoverFault.TheVariants.{IntentBad}
use Rattle.journal_core.proofs.Chain.{by_now}
use Rattle.journal_core.proofs.Cleaned.{all_files, all_settled}
use Rattle.journal_core.proofs.History.{History, observable_at, observable_map, on_observable}
use Rattle.journal_core.proofs.Lasting.{all_gone}
use Rattle.journal_recovery.specs.RecoveryContracts.{EmptiesStage, IsRecoveryExplainedByCounts, RefusesOnlyBadIntent, ReplaysIntent}
use Rattle.journal_recovery.proofs.Replaying.{off_ok}

on_ok : {T E A : Type 0} (r : Result T E) → A → OnOk r A
on_ok (Ok x) a = a
on_ok (Err e) a = tt

-- the replay failed
module _ {T : Type 0} (old new : History) (r : Result T RecoverFault) (error : OnOk r ⊥) where
  pub recovered_off : IfObservable old (λ v. OnOk r (HoldsNow new (λ w. (files_of w ≡ unstaged_files (files_of v)) × (w.names intent_name ≡ None))))
  recovered_off = on_observable old _ (λ v rest is. off_ok _ r error)

  pub settled_off : IfObservable old (λ v. (ignored : List ℕ → Bool) → IsDurable (StateDependsOn ignored) v → IsSome (intent_of (files_of v)) → OnOk r (HoldsNow new (EachCrashLeavesStateOf ignored (files_of v))))
  settled_off = on_observable old _ (λ v rest is ignored is_durable some. off_ok _ r error)

  pub gone_off : IfObservable old (λ v. IsSome (v.names intent_name) → OnOk r (HoldsNow new (IsAbsentAfterEachCrash intent_name)))
  gone_off = on_observable old _ (λ v rest is some. off_ok _ r error)

pub idle_off : (old new : History) → IfObservable old (λ v. v.names intent_name ≡ None → new ≡ old) → IfObservable old (λ v. v.names intent_name ≡ None → HasNoStagedNames v.names → new ≡ old)
idle_off old new idle = observable_map old _ _ idle (λ v t none clear. t none)

-- the counts: calls without a fault, and then a part of the recovery
pub counts_later : {T : Type 0} (a b c : Counts) → CountsOnlyRise a b → CountsNoNewFaultOrLackOfMemory a b → (r : Result T RecoverFault) → IsRecoveryExplainedByCounts b c r → IsRecoveryExplainedByCounts a c r
counts_later a b c rise none (Ok x) told = record {
  goes_on = goes_on_twice a b c rise told.goes_on;
  disk = λ is. cause_later a b c rise (told.disk is);
  kept = no_fault_twice a b c none told.kept;
  memory = λ is. no_fault_twice a b c none (told.memory is);
  refused = λ cause is. no_fault_twice a b c none (told.refused cause is);
}
counts_later a b c rise none (Err e) told = record {
  goes_on = goes_on_twice a b c rise told.goes_on;
  disk = λ is. cause_later a b c rise (told.disk is);
  kept = tt;
  memory = λ is. no_fault_twice a b c none (told.memory is);
  refused = λ cause is. no_fault_twice a b c none (told.refused cause is);
}

module _ {A : Type 0} (old mid : History) (x : A) (replay : ReplaysIntent {T = A} old mid (Ok x)) where
  pub proper_on : (a b c : ℕ) → IfObservable old (λ v. AreJournalPathsFreeAfterReplayIfAny (files_of v) → b ≡ a) → IfObservable mid (λ u. c ≡ b) → IfObservable old (λ v. AreJournalPathsFreeAfterReplayIfAny (files_of v) → c ≡ a)
  proper_on a b c first then = on_observable old _ (λ v rest is free.
      by_now mid (IsIntentReplayed v) (c ≡ b) (observable_at old v rest is (λ u. HoldsNow mid (IsIntentReplayed u)) replay.replayed)
      (observable_map mid (λ u. c ≡ b) (λ u. IsIntentReplayed v u → c ≡ b) then (λ u t q. t))
      ∙ observable_at old v rest is (λ u. AreJournalPathsFreeAfterReplayIfAny (files_of u) → b ≡ a) first free)

module _ {A T : Type 0} (old mid new : History) (x : A) (replay : ReplaysIntent {T = A} old mid (Ok x)) where
  -- the files that a recovery yields
  pub recovered : (r : Result T RecoverFault) → EmptiesStage mid new r → IfObservable old (λ v. OnOk r (HoldsNow new (λ w. (files_of w ≡ unstaged_files (files_of v)) × (w.names intent_name ≡ None))))
  recovered (Ok y) emptied = all_files old mid new replay.replayed emptied.emptied
  recovered (Err e) emptied = on_observable old _ (λ v rest is. tt)

  pub settled_on : (r : Result T RecoverFault) → EmptiesStage mid new r → IfObservable old (λ v. (ignored : List ℕ → Bool) → IsDurable (StateDependsOn ignored) v → IsSome (intent_of (files_of v)) → OnOk r (HoldsNow new (EachCrashLeavesStateOf ignored (files_of v))))
  settled_on r emptied = observable_map old _ _ (all_settled old mid new replay.moments replay.replayed replay.settled emptied.moments) (λ v t ignored is_durable some. on_ok r (t ignored is_durable some))

  pub gone_on : (r : Result T RecoverFault) → EmptiesStage mid new r → IfObservable old (λ v. IsSome (v.names intent_name) → OnOk r (HoldsNow new (IsAbsentAfterEachCrash intent_name)))
  gone_on (Ok y) emptied = all_gone old mid new replay.replayed replay.gone emptied.gone
  gone_on (Err e) emptied = on_observable old _ (λ v rest is some. tt)

  pub idle_on : (r : Result T RecoverFault) → EmptiesStage mid new r → IfObservable old (λ v. v.names intent_name ≡ None → HasNoStagedNames v.names → new ≡ old)
  idle_on r emptied = on_observable old _ (λ v rest is none clear.
      let same : mid ≡ old = observable_at old v rest is (λ u. u.names intent_name ≡ None → mid ≡ old) replay.idle none in
      observable_at mid v rest (same ∙ is) (λ u. HasNoStagedNames u.names → new ≡ mid) emptied.idle clear ∙ same)

  pub refusal_on : (r : Result T RecoverFault) → ((cause : Cause) → IsErrOf r (IntentBad cause) → ⊥) → RefusesOnlyBadIntent old new r
  refusal_on r never = record {
    bad = λ cause is. absurd (never cause is);
    good = observable_map old _ _ replay.refusal.good (λ v none. on_ok r none);
    bad_idle = observable_map old _ _ replay.refusal.good (λ v none cause fault. absurd (none cause fault));
    found = λ cause is. absurd (never cause is);
  }
