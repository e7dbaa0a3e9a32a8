-- A run that is refused has its fault.
use Rattle.std.proofs.Common.{◌≡◌, inl, inr, ◌∙◌, Option, Some, None, Result, Ok, Err, refl, ap, sym, subst}
use Rattle.base_core.specs.Files.{Files}
use Rattle.base_core.specs.declared.cause.Cause.{Cause}
use Rattle.outcome.specs.change_outcome.ChangeOutcome.{ChangeDone}
use Rattle.command_core.specs.Command.{CommandLine}
use Rattle.outcome.specs.engine_core.Changed.{IsFirstClashOfCommand, change_of_command}
use Rattle.outcome.specs.engine_core.Choice.{IsPreferredChoiceOrNoneIfRefused}
use Rattle.outcome.specs.engine_core.Selecting.{pool_of_command}
use Rattle.outcome.specs.journal_core.Recovery.{intent_name}
use Rattle.outcome.specs.journal_core.Staged.{unstaged_files}
use Rattle.outcome.specs.Changing.{change_outcome}
use Rattle.outcome.specs.Commands.{IsOutcomeOverRecoveredFiles, reads_in}
use Rattle.outcome.specs.Effect.{Changes, Effect, effect_of}
use Rattle.outcome.specs.Given.{IsPreferredChoiceForChangeElseNone, IsFirstClashForChangeElseNone}
use Rattle.outcome.specs.Outcome.{Outcome, just_refusal}
use Rattle.outcome.specs.Work.{fault_of_intent}
use Rattle.outcome.proofs.Applets.{change_is}
use Rattle.outcome.proofs.IntentRefusals.{some_same}
use Rattle.report_core.specs.declared.refusal.Refusal.{Refusal}
use Rattle.report_core.specs.declared.refusal.Refusal.TheVariants.{IntentBad}
use Rattle.refusal_laws.specs.RunFaults.{IsFaultOfRun, IsFaultOfCommandOverFiles}
use Rattle.refusal_laws.proofs.CommandFaults.{command_fault}

-- a refused outcome of a change is that of a refusal
refused_is : (files : Files) (c : Result ChangeDone Refusal) (refusal : Refusal) → (change_outcome files c).refusal ≡ Some refusal → c ≡ Err refusal
refused_is files (Ok done) refusal e = absurd (cc (e))
refused_is files (Err first) refusal e = ap (λ (r : Refusal). Err r) (some_same first refusal e)

pub over_fault : (command : CommandLine) (files : Files) (o : Outcome) (refusal : Refusal) → effect_of command.applet ≡ Changes → IsOutcomeOverRecoveredFiles command files o → o.refusal ≡ Some refusal → IsFaultOfCommandOverFiles command files refusal
over_fault command files o refusal changes (given, is, outcome) e =
    let choice : IsPreferredChoiceOrNoneIfRefused (pool_of_command command (reads_in files)) given.chosen = subst (λ (x : Effect). IsPreferredChoiceForChangeElseNone x command (reads_in files) given.chosen) changes is.chosen in
    let clash : IsFirstClashOfCommand command (reads_in files) files given.chosen given.clash = subst (λ (x : Effect). IsFirstClashForChangeElseNone x command (reads_in files) files given.chosen given.clash) changes is.clash in
    let same : change_outcome files (change_of_command command (reads_in files) files given.chosen given.clash) ≡ o = change_is command.applet command given (reads_in files) files changes ∙ sym outcome in
    record {
      chosen = given.chosen;
      choice = choice;
      fault = command_fault command (reads_in files) given.chosen choice files given.clash refusal clash
          (refused_is files (change_of_command command (reads_in files) files given.chosen given.clash) refusal (ap (λ (x : Outcome). x.refusal) same ∙ e));
    }

-- by whether the intent is bad
pub run_fault : (command : CommandLine) (files : Files) (o : Outcome) (refusal : Refusal) → effect_of command.applet ≡ Changes
    → ((cause : Cause) → fault_of_intent (files intent_name) ≡ Some cause → o ≡ just_refusal files (IntentBad cause))
    → (fault_of_intent (files intent_name) ≡ None → IsOutcomeOverRecoveredFiles command (unstaged_files files) o)
    → o.refusal ≡ Some refusal → IsFaultOfRun command files refusal
run_fault command files o refusal changes bad works e = by_intent (fault_of_intent (files intent_name)) refl
  where
    by_intent : (fault : Option Cause) → fault_of_intent (files intent_name) ≡ fault → IsFaultOfRun command files refusal
    by_intent None is = inr (is, over_fault command (unstaged_files files) o refusal changes (works is) e)
    by_intent (Some cause) is =
        inl (record { cause = cause; bad = is; told = some_same refusal (IntentBad cause) (sym e ∙ ap (λ (x : Outcome). x.refusal) (bad cause is)) })
