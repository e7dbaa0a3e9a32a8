-- What the calls of a run ensure: `judge`, `run_command`, `run` and `recover_and_run`, and of the calls
-- after recovery `run_recovered` and those of the commands. Serves the contracts of these calls. The
-- rules are in `docs/crash-safety.md`, "Misuses, faults and counts" and "Recovery".
use Rattle.std.specs.Prelude.{◌≡◌, ℕ, true, List, Option, Result, IfOk, IsErrOf, IsSome, MatchResult, OnOk}
use Rattle.base_core.specs.Calls.{IfObservable}
use Rattle.base_core.specs.Faults.{Counts, CountsOnlyRise, CountsNewFaultWithCause, CountsNoNewFaultOrLackOfMemory}
use Rattle.base_core.specs.Files.{Files, no_names}
use Rattle.base_core.specs.Read.{OnlyReads}
use Rattle.base_core.specs.Tree.{TreeState, files_of}
use Rattle.base_core.specs.declared.tree.TreeFault.{TreeFault}
use Rattle.base_core.specs.declared.tree.TreeFault.TheVariants.{Disk, Memory}
use Rattle.command_core.specs.Command.{CommandLine}
use Rattle.make_core.specs.make_info.Reads.{Reads}
use Rattle.outcome.specs.Commands.{IsOutcomeOverRecoveredFiles, IsPossibleOutcomeAfterRecovery, reads_in}
use Rattle.outcome.specs.Effect.{Effect, Changes, Makes, effect_of, output_name_for_effect}
use Rattle.outcome.specs.Outcome.{Outcome}
use Rattle.outcome.specs.Verify.{file_refusal}
use Rattle.report_core.specs.declared.refusal.Refusal.{Refusal}
use Rattle.apk_front.specs.Moments.{AreRecoveryAndOutcomePathsFree, ArePathsToWriteFree, EachRecoveryDiffersOnlyInAcceptedNames}
use Rattle.apk_front.specs.Runs.{IfNothingStaged, IsRunAfterRecovery, IsRunWithRecovery}
use Rattle.apk_front.specs.Verdicts.{ReportsOneOfOutcomes, as_outcome}
use Rattle.apk_front.specs.declared.answer.Verdict.{Verdict}

-- how the tree's counts before and after a call explain its verdict, or why there is none
pub record IsVerdictExplainedByCounts (before now : Counts)
    (judged : Result Verdict TreeFault) : Type 0 where
  -- no count falls
  pub goes_on : CountsOnlyRise before now
  -- if an I/O error of the tree is returned, a failed call was counted, with its cause
  pub disk : IsErrOf judged Disk → CountsNewFaultWithCause before now
  -- if there is a verdict, the tree counted no failed call
  pub kept : OnOk judged (CountsNoNewFaultOrLackOfMemory before now)
  -- if memory ran out, the tree counted no failed call
  pub memory : IsErrOf judged Memory → CountsNoNewFaultOrLackOfMemory before now

-- The effect on the tree of a run of `mkpkg` or `mkndx`, or of a call that writes what such a run has made. `IsOne`
-- says which outcomes the run has over given files, and `output` is the name of the file that it makes.
pub record IsMakingRun (IsOne : Files → Outcome → Type 0) (output : Option (List ℕ))
    (old now : List TreeState) (judged : Result Verdict TreeFault) : Type 0 where
  -- on an observable tree, the effect of the run is as *IsRunAfterRecovery* says
  pub tree : IfObservable old (λ v. IsRunAfterRecovery (IsOne (files_of v)) Makes output judged v old now)
  -- a refusal writes nothing
  pub refused : IfOk judged (λ verdict. IsSome verdict.refusal → now ≡ old)
  -- if memory ran out nothing was written
  pub undone : IsErrOf judged Memory → now ≡ old

-- a run of a command that only reads; its outcome depends on the contents at each read, and on the files
pub record IsReadingRun (outcome : Reads → Files → Outcome) (old now : List TreeState)
    (counts_before counts_now : Counts) (judged : Result Verdict TreeFault) : Type 0 where
  -- on an observable tree the verdict is that of the outcome over the tree's files
  pub found : IfOk judged (λ verdict. IfObservable old (λ v.
      as_outcome (files_of v) verdict ≡ outcome (reads_in (files_of v)) (files_of v)))
  -- on every tree the verdict is that of the outcome for some contents at each read
  pub by_reads : IfOk judged
      (λ verdict. (read : Reads) × (as_outcome no_names verdict ≡ outcome read no_names))
  -- the tree is only read; an I/O error has its cause there
  pub tree : OnlyReads Disk old now counts_before counts_now judged

-- A test of the file `name`, which the argument at `place` of the command line names. The result `tested` is the
-- refusal of this file, if it is no sound container.
pub record IsFileTest (place : ℕ) (name : List ℕ) (old now : List TreeState)
    (counts_before counts_now : Counts) (tested : Result (Option Refusal) TreeFault) : Type 0 where
  -- on an observable tree the file under this name is tested
  pub found : IfOk tested (λ refusal. IfObservable old (λ v.
      refusal ≡ file_refusal place (files_of v name)))
  -- on every tree some bytes are tested, or none are found
  pub by_reads : IfOk tested (λ refusal. (found : Option (List ℕ)) × (refusal ≡ file_refusal place found))
  -- the tree is only read
  pub tree : OnlyReads Disk old now counts_before counts_now tested

-- a run of a command whose outcome depends on its arguments alone; `IsOne` says which outcomes it has over any files
pub record IsRunByArguments {Tree : Type 0} (IsOne : Files → Outcome → Type 0) (old now : Tree)
    (judged : Result Verdict TreeFault) : Type 0 where
  -- the verdict is that of the outcome over any files, unless memory ran out
  pub by_words : MatchResult judged
      (λ verdict. (files : Files) → IsOne files (as_outcome files verdict)) (λ fault. fault ≡ Memory)
  -- no call of the tree is made
  pub untouched : now ≡ old

-- a run of a command, after recovery
pub record IsRecoveredRun (command : CommandLine) (old now : List TreeState)
    (counts_before counts_now : Counts) (judged : Result Verdict TreeFault) : Type 0 where
  -- on an observable tree without an intent and staged files, the verdict is that of an outcome over the tree's files
  pub found : IfOk judged (λ verdict. IfNothingStaged old (λ v.
      ReportsOneOfOutcomes (IsOutcomeOverRecoveredFiles command (files_of v)) verdict))
  -- on every tree the verdict is that of an outcome for some listing and some contents at each read
  pub by_reads : IfOk judged
      (λ verdict. ReportsOneOfOutcomes (IsPossibleOutcomeAfterRecovery command) verdict)
  -- on an observable tree without an intent and staged files, the effect of the run is as *IsRunAfterRecovery* says
  pub tree : IfNothingStaged old (λ v. IsRunAfterRecovery (IsOutcomeOverRecoveredFiles command (files_of v))
      (effect_of command.applet)
      (output_name_for_effect (effect_of command.applet) command) judged v old now)
  -- on an observable tree without an intent and staged files: if memory ran out, nothing was written
  pub undone : IfNothingStaged old (λ v. IsErrOf judged Memory → now ≡ old)
  -- if there is a verdict, the tree counted no failed call; an I/O error has its cause in the counts
  pub counts : IsVerdictExplainedByCounts counts_before counts_now judged
  -- on an observable tree without an intent and staged files, no call is a misuse if the paths that an outcome that
  -- commits writes are free
  pub proper : IfNothingStaged old (λ v.
      ((outcome : Outcome) → IsOutcomeOverRecoveredFiles command (files_of v) outcome → outcome.commits
      ≡ true
      → ArePathsToWriteFree (effect_of command.applet)
      (output_name_for_effect (effect_of command.applet) command)
      (files_of v))
      → counts_now.misuses ≡ counts_before.misuses)

-- A run of a command line, which first recovers if its command does. `IsOne` says which outcomes the run has over
-- given files, and `IsPossible` which it may have on a tree that is not observable. `accepts` says which names the tree
-- has accepted.
pub record IsJudgedRun (accepts : Option (List ℕ) → List ℕ → Type 0)
    (IsOne : Files → Outcome → Type 0) (IsPossible : Outcome → Type 0) (effect : Effect)
    (output : Option (List ℕ)) (old now : List TreeState) (counts_before counts_now : Counts)
    (judged : Result Verdict TreeFault) : Type 0 where
  -- on an observable tree the verdict is that of an outcome over the tree's files at the start
  pub found : IfOk judged (λ verdict. IfObservable old
      (λ v. ReportsOneOfOutcomes (IsOne (files_of v)) verdict))
  -- on every tree the verdict is that of an outcome for some listing and some contents at each read
  pub by_reads : IfOk judged (λ verdict. ReportsOneOfOutcomes IsPossible verdict)
  -- on an observable tree, the effect of the run is as *IsRunWithRecovery* says
  pub tree : IfObservable old (λ v. IsRunWithRecovery (IsOne (files_of v)) effect output judged v old now)
  -- at each moment of a change, the tree has accepted each name to which recovery would then give other bytes than
  -- recovery at the start
  pub promised : effect ≡ Changes → EachRecoveryDiffersOnlyInAcceptedNames accepts old now
  -- if there is a verdict, the tree counted no failed call; an I/O error has its cause in the counts
  pub counts : IsVerdictExplainedByCounts counts_before counts_now judged
  -- on an observable tree, no call is a misuse if the paths that recovery and the outcome write are free
  pub proper : IfObservable old
      (λ v. AreRecoveryAndOutcomePathsFree effect output (IsOne (files_of v)) (files_of v)
      → counts_now.misuses ≡ counts_before.misuses)
