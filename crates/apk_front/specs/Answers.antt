-- What a run of `apk` answers, and what it prints on its two sinks: `out` is standard output, `err` is
-- standard error. The contract of `apk` cites these definitions. The rules are in `docs/commands.md`, "Answers and
-- statuses", and for faults in `docs/crash-safety.md`, "Misuses, faults and counts".
use Rattle.std.specs.Prelude.{◌≡◌, ◌≢◌, ◌⊎◌, ◌<◌, ℕ, ◌-◌, ◌^◌, false, Bool, ◌||◌, List, [], Option, Some, None, is_ok}
use Rattle.base_core.specs.Calls.{HoldsNow}
use Rattle.base_core.specs.Faults.{Counts, CountsNewFaultWithCause, CountsNoNewFaultOrLackOfMemory, RoseOrIsSaturated}
use Rattle.base_core.specs.Files.{Files}
use Rattle.base_core.specs.Sink.{SinkBeforeAndAfter, SinkBytesGrowBy, SinkBytesGrowByPrefixOf, SinkFailedWithCause}
use Rattle.base_core.specs.Tree.{TreeState, files_of}
use Rattle.outcome.specs.Outcome.{Outcome}
use Rattle.outcome.specs.Words.{IsOutcome}
use Rattle.report_core.specs.Texts.{tree_failure_line, out_of_memory_line}
use Rattle.report_core.specs.declared.refusal.Refusal.{Refusal}
use Rattle.words_core.specs.Grammar.{command_of, start_of_command_line}
use Rattle.apk_front.specs.declared.answer.Answer.{Answer}
use Rattle.apk_front.specs.declared.answer.Answer.TheVariants.{Ok, Refused, TreeFault, OutFault, Memory}

-- ---- the answer of an outcome

-- the answer of a command that reached its end: it is refused if there is a refusal, and done otherwise
abbrev pub answer_for_refusal : Option Refusal → Answer
answer_for_refusal None = Ok
answer_for_refusal (Some refusal) = Refused refusal

-- the answer of an outcome; its bytes and files do not matter
abbrev pub answer_of : Outcome → Answer
answer_of outcome = answer_for_refusal outcome.refusal

-- ---- what is printed

-- a sink did not fail: its counts of faults and of calls without memory are unchanged
abbrev pub DidNotFail : SinkBeforeAndAfter → Type 0
DidNotFail sink = CountsNoNewFaultOrLackOfMemory sink.before sink.after

-- a sink gets a whole line, or a prefix of the line if the sink failed
abbrev pub GetsLineOrFailsWithPrefix : SinkBeforeAndAfter → List ℕ → Type 0
GetsLineOrFailsWithPrefix sink line =
    (SinkBytesGrowBy sink line × DidNotFail sink)
    ⊎ (SinkBytesGrowByPrefixOf sink line × SinkFailedWithCause sink)

-- a sink failed, and `bytes`, which were to be printed on it, are at least one byte
pub record FailedWithBytesToPrint (sink : SinkBeforeAndAfter) (bytes : List ℕ) : Type 0 where
  -- there is a byte to be printed
  pub some : bytes ≢ []
  -- a call on the sink failed
  pub failed : SinkFailedWithCause sink

-- the answer and all bytes are those of an outcome, and no sink failed
pub record IsAnsweredInFull (outcome : Outcome) (answer : Answer)
    (out err : SinkBeforeAndAfter) : Type 0 where
  -- the answer is that of the outcome
  pub same : answer ≡ answer_of outcome
  -- standard output gets all bytes of the outcome
  pub out_gets : SinkBytesGrowBy out outcome.out
  -- standard error gets all bytes of the outcome
  pub err_gets : SinkBytesGrowBy err outcome.err
  -- standard output did not fail
  pub out_kept : DidNotFail out
  -- standard error did not fail
  pub err_kept : DidNotFail err

-- exactly one of the two sinks failed while an outcome was printed
pub record IsSingleSinkFault (outcome : Outcome) (out err : SinkBeforeAndAfter) : Type 0 where
  -- `out` failed, and then nothing is printed on `err`; or `err` failed, after the whole report on `out`
  pub which :
      (FailedWithBytesToPrint out outcome.out × SinkBytesGrowBy err [] × DidNotFail err)
      ⊎ (FailedWithBytesToPrint err outcome.err × SinkBytesGrowBy out outcome.out × DidNotFail out)
  -- standard output got the first bytes of what was to be printed, or all
  pub out_gets : SinkBytesGrowByPrefixOf out outcome.out
  -- standard error got the first bytes of what was to be printed, or all
  pub err_gets : SinkBytesGrowByPrefixOf err outcome.err

-- no outcome was printed: `err` gets only this line, or a prefix of it if `err` fails; `out` gets nothing, and
-- does not fail
pub record PrintsOnlyErrorLine (line : List ℕ) (out err : SinkBeforeAndAfter) : Type 0 where
  -- standard output gets nothing
  pub out_gets : SinkBytesGrowBy out []
  -- standard output does not fail
  pub out_kept : DidNotFail out
  -- standard error gets the line, or the first bytes of it
  pub err_gets : GetsLineOrFailsWithPrefix err line

-- ---- the answer

-- The answer is that of an outcome for which `IsOne` holds: the outcome's bytes are printed, and `Leaves` holds of
-- the outcome. A fault of a sink may replace the answer and cut the bytes short. Or the tree failed (`tree_failed`
-- holds), or memory ran out: then only the line of this error is printed.
abbrev pub IsAnswerOfSomeOutcomeOrFailure :
    (Outcome → Type 0) → (Outcome → Type 0) → Type 0 → Answer → SinkBeforeAndAfter → SinkBeforeAndAfter
    → Type 0
IsAnswerOfSomeOutcomeOrFailure IsOne Leaves tree_failed Ok out err =
    (outcome : Outcome) × IsOne outcome × IsAnsweredInFull outcome Ok out err × Leaves outcome
IsAnswerOfSomeOutcomeOrFailure IsOne Leaves tree_failed (Refused refusal) out err =
    (outcome : Outcome)
    × IsOne outcome
    × IsAnsweredInFull outcome (Refused refusal) out err
    × Leaves outcome
IsAnswerOfSomeOutcomeOrFailure IsOne Leaves tree_failed OutFault out err =
    (outcome : Outcome) × IsOne outcome × IsSingleSinkFault outcome out err × Leaves outcome
IsAnswerOfSomeOutcomeOrFailure IsOne Leaves tree_failed TreeFault out err = tree_failed
    × PrintsOnlyErrorLine tree_failure_line out err
IsAnswerOfSomeOutcomeOrFailure IsOne Leaves tree_failed Memory out err =
    PrintsOnlyErrorLine out_of_memory_line out err

-- the files as read after a run are its outcome's
abbrev pub LeavesFiles : List TreeState → Outcome → Type 0
LeavesFiles now outcome = HoldsNow now (λ w. files_of w ≡ outcome.files)

-- nothing is said of the files that a run leaves
abbrev pub LeavesAnyFiles : Outcome → Type 0
LeavesAnyFiles outcome = Unit {0}

-- ---- causes of failures

-- What failed, by the answer, the counts of the tree before and after, and those of the sinks. After Ok
-- and a refusal nothing failed. An I/O error of the tree has its cause there. After a fault of a sink
-- exactly one sink failed, and the tree did not. Out of memory is answered only if the tree did not
-- fail. After an I/O error of the tree, and out of memory, exactly its line is printed.
abbrev pub AnswerTellsWhetherTreeOrSinkFailed : Answer → Counts → Counts → SinkBeforeAndAfter
    → SinkBeforeAndAfter
    → Type 0
AnswerTellsWhetherTreeOrSinkFailed Ok before after out err =
    CountsNoNewFaultOrLackOfMemory before after × DidNotFail out × DidNotFail err
AnswerTellsWhetherTreeOrSinkFailed (Refused refusal) before after out err =
    CountsNoNewFaultOrLackOfMemory before after × DidNotFail out × DidNotFail err
AnswerTellsWhetherTreeOrSinkFailed TreeFault before after out err =
    CountsNewFaultWithCause before after × PrintsOnlyErrorLine tree_failure_line out err
AnswerTellsWhetherTreeOrSinkFailed OutFault before after out err =
    CountsNoNewFaultOrLackOfMemory before after
    × ((SinkFailedWithCause out × DidNotFail err) ⊎ (SinkFailedWithCause err × DidNotFail out))
AnswerTellsWhetherTreeOrSinkFailed Memory before after out err =
    CountsNoNewFaultOrLackOfMemory before after × PrintsOnlyErrorLine out_of_memory_line out err

-- a run in which no count of faults rose: neither the tree's, nor a sink's
pub record IsFaultless (before after : Counts) (out err : SinkBeforeAndAfter) : Type 0 where
  -- the tree's count of faults did not rise, and is not at its greatest value
  pub tree : ¬ RoseOrIsSaturated before.faults after.faults
  -- the same for the count of faults of standard output
  pub out_sink : ¬ RoseOrIsSaturated out.before.faults out.after.faults
  -- the same for the count of faults of standard error
  pub err_sink : ¬ RoseOrIsSaturated err.before.faults err.after.faults

-- the answer is that of an outcome of the command line `words` over these files, unless memory ran out
abbrev pub AnswersOutcomeUnlessMemory : List (List ℕ) → Files → Answer → Type 0
AnswersOutcomeUnlessMemory words files answer =
    (answer ≡ Memory)
    ⊎ ((outcome : Outcome)
    × IsOutcome (command_of words) files outcome
    × (answer ≡ answer_of outcome))

-- The counts of a tree or a sink say that no failure of its calls is planned (as tests plan them). Its count of
-- misuses is below the greatest count, 2^64 - 1, so that one more misuse would be counted.
pub record HasNoPlannedFailureAndCanCountMisuse (counts : Counts) : Type 0 where
  -- the counts say that no call is to fail
  pub unplanned : counts.fallible ≡ false
  -- one more misuse would be counted
  pub below : counts.misuses < 2 ^ 64 - 1

-- The answer and all bytes are the outcome's, and `Leaves` holds of the outcome. Or memory ran out: in the run, in
-- the tree (`TreeFault`), or in a sink (`OutFault`).
abbrev pub IsAnsweredInFullUnlessMemory :
    List (List ℕ) → Files → (Outcome → Type 0) → Answer → Counts → Counts
    → SinkBeforeAndAfter → SinkBeforeAndAfter → Type 0
IsAnsweredInFullUnlessMemory words files Leaves Ok before after out err =
    (outcome : Outcome)
    × IsOutcome (command_of words) files outcome
    × IsAnsweredInFull outcome Ok out err
    × Leaves outcome
IsAnsweredInFullUnlessMemory words files Leaves (Refused refusal) before after out err =
    (outcome : Outcome)
    × IsOutcome (command_of words) files outcome
    × IsAnsweredInFull outcome (Refused refusal) out err
    × Leaves outcome
IsAnsweredInFullUnlessMemory words files Leaves TreeFault before after out err =
    RoseOrIsSaturated before.memory_faults after.memory_faults
IsAnsweredInFullUnlessMemory words files Leaves OutFault before after out err =
    RoseOrIsSaturated out.before.memory_faults out.after.memory_faults
    ⊎ RoseOrIsSaturated err.before.memory_faults err.after.memory_faults
IsAnsweredInFullUnlessMemory words files Leaves Memory before after out err = Unit {0}

-- whether the arguments name an applet, perhaps after leading options, or ask for help or for the version
-- without one
abbrev pub is_applet_help_or_version_named : List (List ℕ) → Bool
is_applet_help_or_version_named words = is_ok (start_of_command_line words) || is_ok (command_of words)
