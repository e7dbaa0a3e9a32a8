-- Where no failure is planned, only want of memory stands in the place of an outcome.
use Rattle.std.proofs.Common.{◌≡◌, ◌⊎◌, inl, inr, ℕ, ◌<◌, ◌-◌, ◌^◌, true, false, List, [], ◌∷◌, sym, ◌∙◌, arith}
use Rattle.base_core.specs.Calls.{IfObservable}
use Rattle.base_core.specs.Faults.{Counts, CountsNewFaultWithCause, RoseOrIsSaturated}
use Rattle.base_core.specs.Files.{Files}
use Rattle.base_core.specs.Tree.{TreeState, files_of}
use Rattle.apk_front.specs.Answers.{FailedWithBytesToPrint, IsAnswerOfSomeOutcomeOrFailure, IsAnsweredInFullUnlessMemory, HasNoPlannedFailureAndCanCountMisuse, LeavesFiles}
use Rattle.outcome.specs.Outcome.{Outcome}
use Rattle.base_core.specs.Sink.{SinkBeforeAndAfter, SinkCountsOnlyRiseWithoutMisuse}
use Rattle.apk_front.proofs.Printing.{either_failed}
use Rattle.apk_front.specs.declared.answer.Answer.{Answer}
use Rattle.apk_front.specs.declared.answer.Answer.TheVariants.{Ok as Good, Refused, TreeFault, OutFault, Memory}
use Rattle.outcome.specs.Words.{IsOutcome}
use Rattle.words_core.specs.Grammar.{command_of}

not_risen : (m n : ℕ) → n ≡ m → m < 2 ^ 64 - 1 → RoseOrIsSaturated m n → ⊥
not_risen m n same below rose = omega arith

wanted : (before after : Counts) → HasNoPlannedFailureAndCanCountMisuse before → after.misuses ≡ before.misuses → CountsNewFaultWithCause before after → RoseOrIsSaturated before.memory_faults after.memory_faults
wanted before after unplanned same cause = elim cause.reason [
  | inl fallible ↦ let planned : true ≡ false = sym fallible ∙ unplanned.unplanned in absurd (cc)
  | inr (inl misuse) ↦ absurd (not_risen before.misuses after.misuses same unplanned.below misuse)
  | inr (inr want) ↦ want
]

sink_wanted : (o : Outcome) (out err : SinkBeforeAndAfter) → HasNoPlannedFailureAndCanCountMisuse out.before → HasNoPlannedFailureAndCanCountMisuse err.before → SinkCountsOnlyRiseWithoutMisuse out → SinkCountsOnlyRiseWithoutMisuse err → FailedWithBytesToPrint out o.out ⊎ FailedWithBytesToPrint err o.err
    → RoseOrIsSaturated out.before.memory_faults out.after.memory_faults ⊎ RoseOrIsSaturated err.before.memory_faults err.after.memory_faults
sink_wanted o out err calm_out calm_err does_exclude keeps_err (inl failed) = inl (wanted out.before out.after calm_out does_exclude.proper failed.failed)
sink_wanted o out err calm_out calm_err does_exclude keeps_err (inr failed) = inr (wanted err.before err.after calm_err keeps_err.proper failed.failed)

ends_as_stated : (words : List (List ℕ)) (files : Files) (Leaves : Outcome → Type 0) (before after : Counts) (answer : Answer) (out err : SinkBeforeAndAfter)
    → IsAnswerOfSomeOutcomeOrFailure (IsOutcome (command_of words) files) Leaves (CountsNewFaultWithCause before after) answer out err → after.misuses ≡ before.misuses → SinkCountsOnlyRiseWithoutMisuse out → SinkCountsOnlyRiseWithoutMisuse err
    → HasNoPlannedFailureAndCanCountMisuse before → HasNoPlannedFailureAndCanCountMisuse out.before → HasNoPlannedFailureAndCanCountMisuse err.before
    → IsAnsweredInFullUnlessMemory words files Leaves answer before after out err
ends_as_stated words files Leaves before after Good out err stated same does_exclude keeps_err calm calm_out calm_err = stated
ends_as_stated words files Leaves before after (Refused refusal) out err stated same does_exclude keeps_err calm calm_out calm_err = stated
ends_as_stated words files Leaves before after TreeFault out err (cause, fault) same does_exclude keeps_err calm calm_out calm_err = wanted before after calm same cause
ends_as_stated words files Leaves before after OutFault out err (o, is, fault, leaves) same does_exclude keeps_err calm calm_out calm_err = sink_wanted o out err calm_out calm_err does_exclude keeps_err (either_failed fault.which)
ends_as_stated words files Leaves before after Memory out err fault same does_exclude keeps_err calm calm_out calm_err = tt

pub ends_unless_memory : (Room : TreeState → Type 0) (words : List (List ℕ)) (old now : List TreeState) (before after : Counts) (answer : Answer) (out err : SinkBeforeAndAfter)
    → IfObservable old (λ v. IsAnswerOfSomeOutcomeOrFailure (IsOutcome (command_of words) (files_of v)) (LeavesFiles now) (CountsNewFaultWithCause before after) answer out err)
    → IfObservable old (λ v. Room v → after.misuses ≡ before.misuses)
    → SinkCountsOnlyRiseWithoutMisuse out → SinkCountsOnlyRiseWithoutMisuse err
    → IfObservable old (λ v. Room v → HasNoPlannedFailureAndCanCountMisuse before → HasNoPlannedFailureAndCanCountMisuse out.before → HasNoPlannedFailureAndCanCountMisuse err.before
    → IsAnsweredInFullUnlessMemory words (files_of v) (LeavesFiles now) answer before after out err)
ends_unless_memory Room words [] now before after answer out err stated proper does_exclude keeps_err = tt
ends_unless_memory Room words (v ∷ rest) now before after answer out err stated proper does_exclude keeps_err = λ room calm calm_out calm_err.
    ends_as_stated words (files_of v) (LeavesFiles now) before after answer out err stated (proper room) does_exclude keeps_err calm calm_out calm_err
