-- The outcome of a command. The rules are in `docs/commands.md`, "Answers and statuses": the rows of
-- the answers done and refused.
use Rattle.std.specs.Prelude.{ℕ, Bool, true, false, List, [], Option, Some, None}
use Rattle.base_core.specs.Files.{Files}
use Rattle.report_core.specs.Texts.{refusal_line}
use Rattle.report_core.specs.declared.refusal.Refusal.{Refusal}

-- the outcome of a run that ends without an I/O error and without running out of memory
pub record Outcome : Type 0 where
  -- why the command is refused, if it is
  pub refusal : Option Refusal
  -- the bytes that are printed on standard output
  pub out : List ℕ
  -- the bytes that are printed on standard error
  pub err : List ℕ
  -- the files after the run
  pub files : Files
  -- whether the run writes or removes files
  pub commits : Bool

-- the error line of a refusal; no bytes if there is no refusal
abbrev pub refusal_line_or_empty : Option Refusal → List ℕ
refusal_line_or_empty None = []
refusal_line_or_empty (Some refusal) = refusal_line refusal

-- the outcome with a report, and with a refusal after it, if there is one; nothing is written
abbrev pub outcome_without_commit : Option Refusal → List ℕ → Files → Outcome
outcome_without_commit refusal report files = record {
  refusal = refusal;
  out = report;
  err = refusal_line_or_empty refusal;
  files = files;
  commits = false;
}

-- the outcome with a report, without a refusal, that commits and leaves these files
abbrev pub commit_report : Files → List ℕ → Outcome
commit_report files report = record (outcome_without_commit None report files) { commits = true }

-- the outcome with a report, without writing or removing anything
abbrev pub just_report : Files → List ℕ → Outcome
just_report files report = outcome_without_commit None report files

-- the outcome with a refusal; nothing is printed on standard output, written or removed
abbrev pub just_refusal : Files → Refusal → Outcome
just_refusal files refusal = outcome_without_commit (Some refusal) [] files

-- the outcome with the refusal, if there is one, and with the report otherwise
abbrev pub just_report_unless_refusal : Files → Option Refusal → List ℕ → Outcome
just_report_unless_refusal files None report = just_report files report
just_report_unless_refusal files (Some refusal) report = just_refusal files refusal
