-- What a run promises by what is selected or by the packages that are found, and how its counts explain
-- its answer. Serves the contracts of `src/changing.rt`, `src/making.rt` and `src/planning.rt`; the
-- contract of the whole run is *IsChangeRun*.
use Rattle.std.specs.Prelude.{◌≡◌, ℕ, List, Option, Result, Ok, OnOk, IfErr, IsErrOf}
use Rattle.base_core.specs.Calls.{IfObservable}
use Rattle.base_core.specs.Faults.{Counts, CountsOnlyRise, CountsNewFaultWithCause, CountsNoNewFaultOrLackOfMemory}
use Rattle.base_core.specs.Files.{Files}
use Rattle.base_core.specs.Tree.{TreeState, files_of}
use Rattle.change_report.specs.change_inputs.Chains.{and_then}
use Rattle.change_report.specs.change_inputs.declared.root.Refused.{Refused}
use Rattle.change_report.specs.change_inputs.declared.root.Refused.TheVariants.{Disk}
use Rattle.change_report.specs.change_inputs.Inputs.{Inputs}
use Rattle.change_report.specs.change_outcome.ChangeOutcome.{ChangeWishes, IsFirstClashUnlessMembersRefusedAmong, change_with_members}
use Rattle.change_report.specs.change_outcome.MembersAfter.{MemberFound}
use Rattle.command_core.specs.Command.{CommandLine}
use Rattle.change_report.specs.make_info.Reads.{Reads}
use Rattle.change_report.specs.package_files.Runs.{AreReadsOfTreeIfObservable}
use Rattle.change_report.specs.package_changes.Changes.{Replacement}
use Rattle.change_report.specs.path_clashes.Clash.{NamePair}
use Rattle.report_core.specs.declared.refusal.Refusal.{Refusal}
use Rattle.engine_core.specs.ChangeRun.{IsEndOfRunOfWantedChange}
use Rattle.engine_core.specs.Changed.{IsFirstClashOrNoneIfRefusedAmong, InputsAndReplacement, change_of_selected, packages_found_after_change}

-- a run of a change, given what is selected or the refusal instead
pub record IsRunOnSelection (command : CommandLine) (selected : Result InputsAndReplacement Refusal)
    (old now : List TreeState) (before after : Counts)
    (result : Result (List ℕ) Refused) : Type 0 where
  -- what the reads find
  pub read : Reads
  -- the reads find what is in the tree
  pub observed : AreReadsOfTreeIfObservable old read
  -- the files that decide whether a configuration file is kept
  pub files : Files
  -- on an observable tree these are its files at the start
  pub there : IfObservable old (λ v. files ≡ files_of v)
  -- the files among which names clash
  pub present_files : Files
  -- on an observable tree the present files are its files at the start
  pub stand : IfObservable old (λ v. present_files ≡ files_of v)
  -- two names of which one would be a folder of the other after the change; None if there are none
  pub clash : Option NamePair
  -- `clash` is the first such clash of the change among `present_files`
  pub is_clash : IsFirstClashOrNoneIfRefusedAmong command read files present_files selected clash
  -- the run ends as the packages found and the result of the change say
  pub comes : IsEndOfRunOfWantedChange (packages_found_after_change command read selected)
      (and_then selected (change_of_selected command read files clash))
      old now before after result

-- a run of a change after which the packages are these, as reads find them
pub record IsRunOnFoundPackages (inputs : Inputs) (r : Replacement) (wishes : ChangeWishes)
    (found : List MemberFound) (old now : List TreeState) (before after : Counts)
    (result : Result (List ℕ) Refused) : Type 0 where
  -- the files that decide whether a configuration file is kept
  pub files : Files
  -- on an observable tree these are its files at the start
  pub there : IfObservable old (λ v. files ≡ files_of v)
  -- the files among which names clash
  pub present_files : Files
  -- on an observable tree the present files are its files at the start
  pub stand : IfObservable old (λ v. present_files ≡ files_of v)
  -- two names of which one would be a folder of the other after the change; None if there are none
  pub clash : Option NamePair
  -- `clash` is the first such clash of the change among `present_files`
  pub is_clash : IsFirstClashUnlessMembersRefusedAmong inputs wishes files present_files (Ok found) clash
  -- the run ends as the packages found and the result of the change say
  pub comes : IsEndOfRunOfWantedChange (Ok found) (change_with_members inputs r wishes clash files found)
      old now before after result

-- the effect of a call on the counts of a tree that it may write
pub record IsRunCounted {A : Type 0} (before after : Counts) (result : Result A Refused) : Type 0 where
  -- no count falls
  pub goes_on : CountsOnlyRise before after
  -- an I/O error is answered only if a failed call was counted, with its cause
  pub disk : IsErrOf result Disk → CountsNewFaultWithCause before after
  -- after Ok, neither the count of faults nor that of calls without memory rose
  pub kept : OnOk result (CountsNoNewFaultOrLackOfMemory before after)
  -- after a refusal or out of memory, neither of these two counts rose
  pub others : IfErr result (λ refused. (refused ≡ Disk → ⊥) → CountsNoNewFaultOrLackOfMemory before after)
