-- A call of `apk` is a run.
use Rattle.std.proofs.Common.{◌≡◌, [], ◌∷◌, refl}
use Rattle.std.specs.Prelude.{IsSome, IsTrue, is_some}
use Rattle.apk_front.specs.Answers.{IsAnswerOfSomeOutcomeOrFailure, LeavesFiles}
use Rattle.apk_front.specs.Moments.{IsOkRefusedOrOutputFault, AreStatesAsRecoveredOrOfCommittingRun, AreStatesOldOrLeadToOutcome, IsRefusedOutOfMemoryOrCommitsNothing, HasNothingToRecover, IgnoresOutputScratchNameButNotIntent, LeavesDurableStateAndOutputIfCommitted, LeavesDurableFilesIfRequiredOnceAnswered, NamesAreDurableExceptOutputIfNoIntent}
use Rattle.base_core.specs.Calls.{HoldsNow, IfObservable}
use Rattle.base_core.specs.Crash.{Since}
use Rattle.base_core.specs.Undone.{IsDurable}
use Rattle.base_core.specs.Faults.{CountsNewFaultWithCause}
use Rattle.base_core.specs.Tree.{TreeState, files_of}
use Rattle.apk_front.specs.journal_core.Quiet.{StateIsUnchanged}
use Rattle.apk_front.specs.journal_core.Recovery.{StateDependsOn, intent_name}
use Rattle.apk_front.specs.outcome.Effect.{effect_of_arguments, output, do_arguments_neither_recover_nor_write}
use Rattle.apk_front.specs.outcome.Work.{recovery_fault}
use Rattle.apk_front.specs.words_core.Grammar.{command_of}
use Rattle.run_lists.specs.Events.{IsOutcomeFrom, IsRunFrom, Run}
use Rattle.run_lists.specs.Safety.{IsAtomicFromOneCrashState, IsCrashSafeAfterAnyEvents}
use Rattle.run_lists.proofs.AtMoments.{History}
use Rattle.run_lists.proofs.Facts.{Ignored}
use Rattle.apk_front.specs.outcome.Words.{IsOutcome}

observed : (h : History) (A B C D E F G H I J Z : TreeState → Type 0)
    → ((v : TreeState) → HoldsNow h (λ u. u ≡ v) → A v → B v → C v → D v → E v → F v → G v → H v → I v → J v → Z v)
    → IfObservable h A → IfObservable h B → IfObservable h C → IfObservable h D → IfObservable h E → IfObservable h F → IfObservable h G → IfObservable h H → IfObservable h I → IfObservable h J → IfObservable h Z
observed [] A B C D E F G H I J Z f a b c d e g h i j k = tt
observed (v ∷ rest) A B C D E F G H I J Z f a b c d e g h i j k = f v refl a b c d e g h i j k

abbrev pub AllSafe : Type 0
AllSafe = (v : TreeState) (run : Run) → IsRunFrom v run → IsCrashSafeAfterAnyEvents v run

abbrev pub AllAtomic : Type 0
AllAtomic = (v : TreeState) (run : Run) → IsRunFrom v run → IsAtomicFromOneCrashState v run

pub called : AllSafe → AllAtomic → (run : Run)
    → (IsTrue (do_arguments_neither_recover_nor_write (command_of run.words)) → run.now ≡ run.old)
    → IfObservable run.old (λ v. IsAnswerOfSomeOutcomeOrFailure (IsOutcome (command_of run.words) (files_of v)) (LeavesFiles run.now) (CountsNewFaultWithCause run.before run.after) run.answer run.out run.err)
    → IfObservable run.old (λ v. IsRefusedOutOfMemoryOrCommitsNothing (IsOutcomeFrom v run) run.answer → HasNothingToRecover (effect_of_arguments (command_of run.words)) v → run.now ≡ run.old)
    → IfObservable run.old (λ v. IsSome (recovery_fault (effect_of_arguments (command_of run.words)) (files_of v)) → run.now ≡ run.old)
    → IfObservable run.old (λ v. AreStatesAsRecoveredOrOfCommittingRun (IsOutcomeFrom v run) (effect_of_arguments (command_of run.words)) (output run.words) v run.old run.now)
    → IfObservable run.old (λ v. IsSome (v.names intent_name) → Since (NamesAreDurableExceptOutputIfNoIntent (output run.words)) run.old run.now)
    → IfObservable run.old (λ v. IsRefusedOutOfMemoryOrCommitsNothing (IsOutcomeFrom v run) run.answer → (ignored : Ignored) → IsDurable (StateDependsOn ignored) v → Since (StateIsUnchanged ignored v) run.old run.now)
    → IfObservable run.old (λ v. (ignored : Ignored) → IsDurable (StateDependsOn ignored) v → IgnoresOutputScratchNameButNotIntent (output run.words) ignored → AreStatesOldOrLeadToOutcome (IsOutcomeFrom v run) (is_some (output run.words)) ignored v run.old run.now)
    → IfObservable run.old (λ v. (ignored : Ignored) → IsDurable (StateDependsOn ignored) v → IgnoresOutputScratchNameButNotIntent (output run.words) ignored → HoldsNow run.now (IsDurable (StateDependsOn ignored)))
    → IfObservable run.old (λ v. (ignored : Ignored) → IsDurable (StateDependsOn ignored) v → IgnoresOutputScratchNameButNotIntent (output run.words) ignored → LeavesDurableFilesIfRequiredOnceAnswered (IsOutcomeFrom v run) (effect_of_arguments (command_of run.words)) ignored v run.now run.answer)
    → IfObservable run.old (λ v. (ignored : Ignored) → IsDurable (StateDependsOn ignored) v → IgnoresOutputScratchNameButNotIntent (output run.words) ignored → IsOkRefusedOrOutputFault run.answer → LeavesDurableStateAndOutputIfCommitted (IsOutcomeFrom v run) (output run.words) ignored run.now)
    → IfObservable run.old (λ v. IsRunFrom v run × IsCrashSafeAfterAnyEvents v run × IsAtomicFromOneCrashState v run)
called all_safe all_atomic run same =
    observed run.old
    (λ v. IsAnswerOfSomeOutcomeOrFailure (IsOutcome (command_of run.words) (files_of v)) (LeavesFiles run.now) (CountsNewFaultWithCause run.before run.after) run.answer run.out run.err)
    (λ v. IsRefusedOutOfMemoryOrCommitsNothing (IsOutcomeFrom v run) run.answer → HasNothingToRecover (effect_of_arguments (command_of run.words)) v → run.now ≡ run.old)
    (λ v. IsSome (recovery_fault (effect_of_arguments (command_of run.words)) (files_of v)) → run.now ≡ run.old)
    (λ v. AreStatesAsRecoveredOrOfCommittingRun (IsOutcomeFrom v run) (effect_of_arguments (command_of run.words)) (output run.words) v run.old run.now)
    (λ v. IsSome (v.names intent_name) → Since (NamesAreDurableExceptOutputIfNoIntent (output run.words)) run.old run.now)
    (λ v. IsRefusedOutOfMemoryOrCommitsNothing (IsOutcomeFrom v run) run.answer → (ignored : Ignored) → IsDurable (StateDependsOn ignored) v → Since (StateIsUnchanged ignored v) run.old run.now)
    (λ v. (ignored : Ignored) → IsDurable (StateDependsOn ignored) v → IgnoresOutputScratchNameButNotIntent (output run.words) ignored → AreStatesOldOrLeadToOutcome (IsOutcomeFrom v run) (is_some (output run.words)) ignored v run.old run.now)
    (λ v. (ignored : Ignored) → IsDurable (StateDependsOn ignored) v → IgnoresOutputScratchNameButNotIntent (output run.words) ignored → HoldsNow run.now (IsDurable (StateDependsOn ignored)))
    (λ v. (ignored : Ignored) → IsDurable (StateDependsOn ignored) v → IgnoresOutputScratchNameButNotIntent (output run.words) ignored → LeavesDurableFilesIfRequiredOnceAnswered (IsOutcomeFrom v run) (effect_of_arguments (command_of run.words)) ignored v run.now run.answer)
    (λ v. (ignored : Ignored) → IsDurable (StateDependsOn ignored) v → IgnoresOutputScratchNameButNotIntent (output run.words) ignored → IsOkRefusedOrOutputFault run.answer → LeavesDurableStateAndOutputIfCommitted (IsOutcomeFrom v run) (output run.words) ignored run.now)
    (λ v. IsRunFrom v run × IsCrashSafeAfterAnyEvents v run × IsAtomicFromOneCrashState v run)
    (λ v begins stated idle bad_intent reads last left crash is_durable settled durable_state.
    let is_run : IsRunFrom v run = record {
      begins = begins;
      stated = stated;
      same = same;
      idle = idle;
      bad_intent = bad_intent;
      reads = reads;
      last = last;
      left = left;
      crash = crash;
      is_durable = is_durable;
      settled = settled;
      durable_state = durable_state;
    } in
    (is_run, all_safe v run is_run, all_atomic v run is_run))
