-- The outcome of a command line. The rules are in `docs/commands.md`: "Words", and the section of each
-- command.
use Rattle.std.specs.Prelude.{◌≡◌, ℕ, Result, Ok, Err}
use Rattle.base_core.specs.Files.{Files, no_names}
use Rattle.command_core.specs.Command.{CommandLine}
use Rattle.command_core.specs.declared.command.Applet.{Applet}
use Rattle.command_core.specs.declared.command.Applet.TheVariants.{Demo}
use Rattle.outcome.specs.DemoCount.{demo_count}
use Rattle.report_core.specs.declared.refusal.Refusal.TheVariants.{Usage}
use Rattle.outcome.specs.Commands.{IsPossibleOutcomeWithoutDemo, IsOutcomeUnlessBadIntent}
use Rattle.outcome.specs.Demo.{IsDemoOutcomeByPackageCount}
use Rattle.outcome.specs.Effect.{effect_of}
use Rattle.outcome.specs.Outcome.{Outcome, just_refusal}
use Rattle.outcome.specs.Work.{recovery_fault}

-- the outcome of a command: `demo` runs other commands; each other applet first recovers if its effect says so
abbrev pub IsOutcomeOfAppletIncludingRecovery : Applet → CommandLine → Files → Outcome → Type 0
IsOutcomeOfAppletIncludingRecovery Demo command files outcome =
    IsDemoOutcomeByPackageCount (demo_count command.operands) files outcome
IsOutcomeOfAppletIncludingRecovery other command files outcome =
    IsOutcomeUnlessBadIntent (recovery_fault (effect_of command.applet) files) command files outcome

-- the outcome of the parsed arguments of a command line over these files: a usage error is reported
-- before any file is read
abbrev pub IsOutcome : Result CommandLine ℕ → Files → Outcome → Type 0
IsOutcome (Err place) files outcome = outcome ≡ just_refusal files (Usage place)
IsOutcome (Ok command) files outcome =
    IsOutcomeOfAppletIncludingRecovery command.applet command files outcome

-- ---- over a tree that is not observable

-- *IsOutcomeOfAppletIncludingRecovery* on a tree that is not observable: the report and the refusal of `demo` depend on no files; the
-- files afterwards are none here
abbrev pub IsPossibleOutcomeOfAppletIncludingRecovery : Applet → CommandLine → Outcome → Type 0
IsPossibleOutcomeOfAppletIncludingRecovery Demo command outcome =
    IsDemoOutcomeByPackageCount (demo_count command.operands) no_names outcome
IsPossibleOutcomeOfAppletIncludingRecovery other command outcome =
    IsPossibleOutcomeWithoutDemo command outcome

-- An outcome of parsed arguments on a tree that is not observable: for some listing, some contents (or none) at each
-- read and of the journal entry, and some files. Nothing is said of the files afterwards: for a usage error they are
-- none here.
abbrev pub IsPossibleOutcome : Result CommandLine ℕ → Outcome → Type 0
IsPossibleOutcome (Err place) outcome = outcome ≡ just_refusal no_names (Usage place)
IsPossibleOutcome (Ok command) outcome =
    IsPossibleOutcomeOfAppletIncludingRecovery command.applet command outcome
