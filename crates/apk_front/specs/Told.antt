-- The verdict on the answer to a change, and to a command that only reports. Serves the proofs of
-- `src/change_root.rt` and `src/report.rt`; the rule is in `docs/commands.md`, "Answers and statuses".
use Rattle.std.specs.Prelude.{◌≡◌, ℕ, List, Result, Ok, Err}
use Rattle.base_core.specs.Files.{Files}
use Rattle.base_core.specs.declared.tree.TreeFault.{TreeFault}
use Rattle.base_core.specs.declared.tree.TreeFault.TheVariants as Trees
use Rattle.tell_core.specs.change_inputs.declared.root.Refused.{Refused}
use Rattle.tell_core.specs.change_inputs.declared.root.Refused.TheVariants.{Disk, Memory, Refusal}
use Rattle.tell_core.specs.declared.info.reporting.ReportAndRefusal.{ReportAndRefusal}
use Rattle.outcome.specs.Outcome.{just_refusal, just_report, outcome_without_commit}
use Rattle.apk_front.specs.Verdicts.{as_outcome}
use Rattle.apk_front.specs.declared.answer.Verdict.{Verdict}

-- the verdict if there is no report: it has the refusal; an I/O error of the tree or out of memory is returned instead
-- of a verdict
abbrev pub IsVerdictOnRefusal : Refused → Result Verdict TreeFault → Type 0
IsVerdictOnRefusal (Refusal refusal) (Ok verdict) =
    (files : Files) → as_outcome files verdict ≡ just_refusal files refusal
IsVerdictOnRefusal (Refusal refusal) (Err fault) = ⊥
IsVerdictOnRefusal Disk judged = judged ≡ Err Trees.Disk
IsVerdictOnRefusal Memory judged = judged ≡ Err Trees.Memory

-- the verdict on a change: the report of the engine, or why there is none
abbrev pub IsVerdictOnChange : Result (List ℕ) Refused → Result Verdict TreeFault → Type 0
IsVerdictOnChange (Ok report) (Ok verdict) =
    (files : Files) → as_outcome files verdict ≡ just_report files report
IsVerdictOnChange (Ok report) (Err fault) = ⊥
IsVerdictOnChange (Err refused) judged = IsVerdictOnRefusal refused judged

-- the verdict of a command that only reports: the report, with the refusal after it, if there is one; or why there is
-- no report
abbrev pub IsVerdictOnReport : Result ReportAndRefusal Refused → Result Verdict TreeFault → Type 0
IsVerdictOnReport (Ok done) (Ok verdict) =
    (files : Files) → as_outcome files verdict
    ≡ outcome_without_commit done.following_refusal done.report files
IsVerdictOnReport (Ok done) (Err fault) = ⊥
IsVerdictOnReport (Err refused) judged = IsVerdictOnRefusal refused judged
