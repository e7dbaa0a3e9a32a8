-- `add`, `del`, `upgrade` and `fix` change what is installed. The rules are in `docs/commands.md`,
-- "`add` and `del`" and "`upgrade` and `fix`"; the result of a change is defined in `engine_core`.
use Rattle.std.specs.Prelude.{Result, Ok, Err}
use Rattle.base_core.specs.Files.{Files}
use Rattle.engine_core.specs.change_outcome.ChangeOutcome.{ChangeDone}
use Rattle.report_core.specs.declared.refusal.Refusal.{Refusal}
use Rattle.outcome.specs.Outcome.{Outcome, just_refusal, just_report}

-- the outcome of a command, given the result of its change: the report and the files afterwards, or the refusal, which
-- leaves `files`
abbrev pub change_outcome : Files → Result ChangeDone Refusal → Outcome
change_outcome files (Ok done) =
    record (just_report done.files done.report) { commits = done.commits }
change_outcome files (Err refusal) = just_refusal files refusal
