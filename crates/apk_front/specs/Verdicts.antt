-- The verdict on a run, and how it is printed. Serves the contracts of `judge` and `show`, of which
-- `apk` is made; the rule is in `docs/commands.md`, "Answers and statuses".
use Rattle.std.specs.Prelude.{◌≡◌, ◌⊎◌, [], Option, Some, None, Result, Ok, Err}
use Rattle.base_core.specs.Files.{Files}
use Rattle.base_core.specs.Sink.{SinkBeforeAndAfter, SinkBytesGrowBy, SinkBytesGrowByPrefixOf, SinkFailedWithCause}
use Rattle.base_core.specs.declared.tree.TreeFault.{TreeFault}
use Rattle.base_core.specs.declared.tree.TreeFault.TheVariants.{Disk, Memory as NoMemory}
use Rattle.command_core.specs.Command.{CommandLine}
use Rattle.make_core.specs.make_info.Reads.{Reads}
use Rattle.outcome.specs.Commands.{effect_outcome}
use Rattle.outcome.specs.Effect.{effect_of}
use Rattle.outcome.specs.Given.{no_listing_choice_or_clash}
use Rattle.outcome.specs.Outcome.{Outcome, outcome_without_commit}
use Rattle.report_core.specs.Texts.{refusal_line, tree_failure_line, out_of_memory_line}
use Rattle.report_core.specs.declared.refusal.Refusal.{Refusal}
use Rattle.apk_front.specs.Answers.{DidNotFail, IsAnsweredInFull, IsSingleSinkFault, PrintsOnlyErrorLine}
use Rattle.apk_front.specs.declared.answer.Answer.{Answer}
use Rattle.apk_front.specs.declared.answer.Answer.TheVariants.{Ok as Good, Refused, TreeFault as TreeFailed, OutFault, Memory}
use Rattle.apk_front.specs.declared.answer.Verdict.{Verdict}

-- the outcome with the refusal and the report of a verdict, which leaves these files and commits nothing
abbrev pub as_outcome : Files → Verdict → Outcome
as_outcome files verdict = outcome_without_commit verdict.refusal verdict.report files

-- the outcome of a command that only reads: it needs no listing of a folder, and no selection
abbrev pub read_only_outcome : CommandLine → Reads → Files → Outcome
read_only_outcome command read files =
    effect_outcome (effect_of command.applet) command.applet command no_listing_choice_or_clash read files

-- the verdict's refusal and report are those of an outcome
abbrev pub Reports : Verdict → Outcome → Type 0
Reports verdict outcome =
    record (as_outcome outcome.files verdict) { commits = outcome.commits } ≡ outcome

-- the verdict's refusal and report are those of one of these outcomes
abbrev pub ReportsOneOfOutcomes : (Outcome → Type 0) → Verdict → Type 0
ReportsOneOfOutcomes IsOne verdict = (outcome : Outcome) × IsOne outcome × Reports verdict outcome

-- the answer and the bytes of an outcome: its own, or a sink's fault instead
abbrev pub IsPrinted : Outcome → Answer → SinkBeforeAndAfter → SinkBeforeAndAfter → Type 0
IsPrinted outcome Good out err = IsAnsweredInFull outcome Good out err
IsPrinted outcome (Refused refusal) out err = IsAnsweredInFull outcome (Refused refusal) out err
IsPrinted outcome OutFault out err = IsSingleSinkFault outcome out err
IsPrinted outcome TreeFailed out err = ⊥
IsPrinted outcome Memory out err = ⊥

-- the answer and the bytes of standard error after a report: a refusal, if there is one, or a fault of
-- that sink instead
abbrev pub IsRefusalPrinted : Option Refusal → Answer → SinkBeforeAndAfter → Type 0
IsRefusalPrinted None answer err = (answer ≡ Good) × SinkBytesGrowBy err [] × DidNotFail err
IsRefusalPrinted (Some refusal) answer err =
    ((answer ≡ Refused refusal) × SinkBytesGrowBy err (refusal_line refusal) × DidNotFail err)
    ⊎ ((answer ≡ OutFault) × SinkBytesGrowByPrefixOf err (refusal_line refusal) × SinkFailedWithCause err)

-- the answer to what was judged, and the bytes of the two sinks: those of the verdict over any files, or the line of an
-- I/O error of the tree or of out of memory
abbrev pub IsVerdictPrinted : Result Verdict TreeFault → Answer → SinkBeforeAndAfter → SinkBeforeAndAfter
    → Type 0
IsVerdictPrinted (Ok verdict) answer out err =
    (files : Files) → IsPrinted (as_outcome files verdict) answer out err
IsVerdictPrinted (Err Disk) answer out err =
    (answer ≡ TreeFailed) × PrintsOnlyErrorLine tree_failure_line out err
IsVerdictPrinted (Err NoMemory) answer out err =
    (answer ≡ Memory) × PrintsOnlyErrorLine out_of_memory_line out err
