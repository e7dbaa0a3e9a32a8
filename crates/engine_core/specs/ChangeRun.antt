-- The answer of a run of a change, and its effect on the tree. The rules are in `docs/commands.md`,
-- "`add` and `del`" and "`upgrade` and `fix`"; crashes are in `docs/crash-safety.md`, "A change of
-- several files".
use Rattle.std.specs.Prelude.{◌≡◌, ◌⊎◌, ℕ, true, List, Option, Some, None, Result, Ok, Err, OnOk, IfErr, Contains}
use Rattle.base_core.specs.Calls.{IfObservable}
use Rattle.base_core.specs.Faults.{Counts}
use Rattle.base_core.specs.Files.{Files}
use Rattle.base_core.specs.Tree.{TreeState, files_of}
use Rattle.base_core.specs.declared.cause.Cause.{Cause}
use Rattle.change_report.specs.change_inputs.Answers.{AgreesUnlessDiskOrMemory}
use Rattle.change_report.specs.change_inputs.Chains.{and_then}
use Rattle.change_report.specs.change_inputs.declared.root.Refused.{Refused}
use Rattle.change_report.specs.change_inputs.declared.root.Refused.TheVariants.{Disk, Refusal as IsRefused}
use Rattle.change_report.specs.change_outcome.ChangeOutcome.{ChangeDone}
use Rattle.change_report.specs.change_outcome.MembersAfter.{MemberFound}
use Rattle.command_core.specs.Command.{CommandLine}
use Rattle.change_report.specs.db_core.Members.{member_name}
use Rattle.change_report.specs.file_owners.Replaces.{package_version_text}
use Rattle.change_report.specs.journal_core.Recovery.{intent_name}
use Rattle.change_report.specs.journal_core.Staged.{HasEmptyStageAndFreeJournalPaths, HasNoStagedNames}
use Rattle.change_report.specs.make_info.Reads.{Reads}
use Rattle.change_report.specs.package_files.Runs.{AreReadsOfTreeIfObservable}
use Rattle.change_report.specs.path_clashes.Clash.{NamePair}
use Rattle.report_core.specs.declared.refusal.Refusal.{Refusal}
use Rattle.report_core.specs.declared.refusal.Refusal.TheVariants.{PackageBad}
use Rattle.journal_staging.specs.Spoiled.{IsFileWithOnlyContentsSpoiled}
use Rattle.journal_staging.specs.journal_commit.StageRun.{IsRunOfStagedChange, IsStagedChangeComplete}
use Rattle.engine_core.specs.Changed.{IsFirstClashOfCommandAmong, change_of_command, packages_found_after_change, selected_from_reads_by_choice}
use Rattle.engine_core.specs.Choice.{IsPreferredChoiceOrNoneIfRefused}
use Rattle.engine_core.specs.Selecting.{pool_of_command}

-- ---- the answer

-- the report itself: the report that `change` returns is compared with the wanted one as it is
abbrev pub report_as_is : List ℕ → List ℕ
report_as_is report = report

-- the report of a change whose result is `wanted`, or its refusal
abbrev pub report_of_result : Result ChangeDone Refusal → Result (List ℕ) Refusal
report_of_result wanted = and_then wanted (λ done. Ok done.report)

-- a change with this result is not refused, and writes or removes something
abbrev pub DoesCommit : Result ChangeDone Refusal → Type 0
DoesCommit (Ok done) = done.commits ≡ true
DoesCommit (Err refusal) = ⊥

-- One of the packages that were read for a change is spoiled: its file has other contents now. `tested` are the bytes
-- of its file when it was tested, and `file` is a file with other contents, which fails a test with `cause`. The
-- refusal reports this package as bad, with this cause.
pub record IsRefusalOfPackageSpoiledSinceTested (packages : Result (List MemberFound) Refusal)
    (refusal : Refusal) :
    Type 0 where
  -- the packages after the change, as the reads found them
  pub found : List MemberFound
  -- `found` are these packages
  pub are : packages ≡ Ok found
  -- one of these packages, which is spoiled
  pub one : MemberFound
  -- `one` is one of the packages found
  pub among : Contains found one
  -- the bytes of its file when it was tested
  pub tested : List ℕ
  -- these bytes were read as the file of `one`
  pub read : one.file ≡ Some tested
  -- the bytes of a file with the length and the values of `tested`, and with other contents
  pub file : List ℕ
  -- the test that this file fails
  pub cause : Cause
  -- the file differs from `tested` only in contents of files, and fails this test
  pub spoiled : IsFileWithOnlyContentsSpoiled tested file cause
  -- the refusal reports this package as bad, with this cause
  pub is : refusal ≡ PackageBad (member_name one.member) (package_version_text one.member.pkg) cause

-- The file of an added package is not what was tested, when its contents are read once more. The refusal is that of
-- some file with other contents. This does not happen on an observable tree without an intent and staged files.
pub record IsRefusedForUnobservedChangeOfTestedPackage (packages : Result (List MemberFound) Refusal)
    (wanted : Result ChangeDone Refusal) (history : List TreeState)
    (result : Result (List ℕ) Refused) : Type 0 where
  -- the tree is not observable, or has an intent or a staged file
  pub unseen : IfObservable history (λ v. v.names intent_name ≡ None → HasNoStagedNames (files_of v)
      → ⊥)
  -- the change is not refused, and would write or remove something
  pub commits : DoesCommit wanted
  -- the refusal
  pub refusal : Refusal
  -- the refusal reports one of these packages as spoiled
  pub spoiled : IsRefusalOfPackageSpoiledSinceTested packages refusal
  -- the run ends with this refusal
  pub is : result ≡ Err (IsRefused refusal)

-- ---- the effect on the tree

-- A change with the result `wanted` is staged and committed, or the tree failed on the way. The run begins in the state
-- `v`; `old` and `now` are the histories of the tree before and after it.
pub record IsRunThatCommitsChangeUnlessTreeFails (wanted : Result ChangeDone Refusal) (v : TreeState)
    (old now : List TreeState) (result : Result (List ℕ) Refused) : Type 0 where
  -- the result of the change
  pub done : ChangeDone
  -- the change is not refused, and has this result
  pub is : wanted ≡ Ok done
  -- the change writes or removes a file
  pub commits : done.commits ≡ true
  -- the states of the run are those of a staged change that leads to the files of `done`
  pub run : IsRunOfStagedChange done.files v old now
  -- if the run answers Ok, the change is complete (*IsStagedChangeComplete*): the files as read are those of `done`
  pub ok : OnOk result (IsStagedChangeComplete done.files v now)
  -- the run fails only with an I/O error of the tree
  pub err : IfErr result (λ refused. refused ≡ Disk)

-- the tree is unchanged, and the run answers Ok only if the change commits nothing; or the change is committed
abbrev pub IsUnchangedOrCommit :
    Result ChangeDone Refusal → TreeState → List TreeState → List TreeState
    → Result (List ℕ) Refused → Type 0
IsUnchangedOrCommit wanted v old now result =
    ((now ≡ old) × OnOk result (DoesCommit wanted → ⊥))
    ⊎ IsRunThatCommitsChangeUnlessTreeFails wanted v old now result

-- ---- the answer and the effect together

-- How a run ends. `wanted` is the result of its change: what is done, or a refusal. `packages` is what its reads find:
-- the packages after the change, or a refusal. The run answers the report or the refusal of `wanted`; or it refuses one
-- of `packages`, whose file is no longer what was tested; or the tree failed, or memory ran out. Suppose that there is
-- neither an intent nor a staged file at the start. Then the tree is unchanged, or the change is committed, or the tree
-- fails on the way. No call is a misuse if the paths are free for the stage of a change that commits.
pub record IsEndOfRunOfWantedChange (packages : Result (List MemberFound) Refusal)
    (wanted : Result ChangeDone Refusal) (old now : List TreeState) (before after : Counts)
    (result : Result (List ℕ) Refused) : Type 0 where
  -- the run answers the report or the refusal of `wanted`, unless the tree failed or memory ran out; or it refuses a
  -- package whose file is no longer what was tested
  pub told : AgreesUnlessDiskOrMemory report_as_is result (report_of_result wanted)
      ⊎ IsRefusedForUnobservedChangeOfTestedPackage packages wanted old result
  -- without an intent and staged files at the start, the change is committed, or the tree is unchanged or failed
  pub run : IfObservable old (λ v. v.names intent_name ≡ None → HasNoStagedNames (files_of v)
      → IsUnchangedOrCommit wanted v old now result)
  -- without an intent and staged files, no call is a misuse if the paths of the stage are free
  pub proper : IfObservable old (λ v. v.names intent_name ≡ None → HasNoStagedNames (files_of v)
      → (DoesCommit wanted → HasEmptyStageAndFreeJournalPaths (files_of v)) → after.misuses
      ≡ before.misuses)

-- A run of a command's change: by what reads find, by some files, by what is chosen, and by the first
-- clash of names among some present files. On an observable tree `files` and `present_files` are the
-- tree's files at the start.
pub record IsChangeRun (command : CommandLine) (old now : List TreeState) (before after : Counts)
    (result : Result (List ℕ) Refused) : Type 0 where
  -- what the reads find
  pub read : Reads
  -- the reads find what is in the tree
  pub observed : AreReadsOfTreeIfObservable old read
  -- the places of the chosen candidates; None if no selection satisfies the new world
  pub chosen : Option (List ℕ)
  -- the chosen candidates are the preferred selection, or there is none
  pub choice : IsPreferredChoiceOrNoneIfRefused (pool_of_command command read) chosen
  -- the files that decide whether a configuration file is kept
  pub files : Files
  -- on an observable tree these are its files at the start
  pub there : IfObservable old (λ v. files ≡ files_of v)
  -- the files among which names clash
  pub present_files : Files
  -- on an observable tree the present files are its files at the start
  pub stand : IfObservable old (λ v. present_files ≡ files_of v)
  -- two names of which one would be a folder of the other after the change; None if there are none
  pub clash : Option NamePair
  -- `clash` is the first such clash of the change among `present_files`
  pub is_clash : IsFirstClashOfCommandAmong command read files present_files chosen clash
  -- the run ends as the packages found and the result of the change say
  pub comes : IsEndOfRunOfWantedChange
      (packages_found_after_change command read (selected_from_reads_by_choice command read chosen))
      (change_of_command command read files chosen clash) old now before after result
