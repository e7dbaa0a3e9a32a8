-- How a change ends that is not refused.
use Rattle.std.proofs.Common.{◌≡◌, inl, inr, ℕ, false, List, Option, Some, None, Ok, refl, sym, ap, ◌∙◌}
use Rattle.std.specs.Prelude.{IsTrue}
use Rattle.base_core.specs.Files.{Files}
use Rattle.base_core.specs.declared.cause.Cause.{Cause}
use Rattle.command_core.specs.Command.{CommandLine}
use Rattle.command_core.specs.declared.command.Applet.{Applet}
use Rattle.run_lists.specs.journal_core.Recovery.{intent_name}
use Rattle.run_lists.specs.journal_core.Staged.{unstaged_files}
use Rattle.refusal_laws.specs.outcome.ChangeEnd.{IsChangeEndAfterRecoveryOrIntentRefusal, TakesFirstPreferredSelection}
use Rattle.refusal_laws.specs.outcome.Commands.{IsOutcomeOverRecoveredFiles}
use Rattle.refusal_laws.specs.outcome.Effect.{Changes, does_recover, effect_of}
use Rattle.refusal_laws.specs.outcome.Outcome.{Outcome, just_refusal}
use Rattle.refusal_laws.specs.outcome.Recovers.{must_recover}
use Rattle.refusal_laws.specs.outcome.Words.{IsOutcome}
use Rattle.refusal_laws.specs.outcome.Work.{fault_of_intent}
use Rattle.refusal_laws.specs.RunFaults.{IsFaultOfRun}
use Rattle.refusal_laws.specs.RunMade.{InstallsFirstSelectionFaultlessExceptLimits}
use Rattle.report_core.specs.declared.refusal.Refusal.{Refusal}
use Rattle.report_core.specs.declared.refusal.Refusal.TheVariants.{IntentBad, Unsatisfied}
use Rattle.refusal_laws.specs.words_core.Grammar.{command_of}
use Rattle.headline.specs.Sentence.{EndsInTrueRefusalOrFirstSelection}

not_both : (a : Option Refusal) (refusal : Refusal) → a ≡ None → a ≡ Some refusal → ⊥
not_both a refusal none some = cc (none, some)

-- an outcome is no refusal
refuses_none : (files : Files) (refusal : Refusal) (o : Outcome) → o.refusal ≡ None → o ≡ just_refusal files refusal → ⊥
refuses_none files refusal o none is = not_both o.refusal refusal none (ap (λ (p : Outcome). p.refusal) is)

pub takes_first : (command : CommandLine) (files : Files) (o : Outcome) → IsChangeEndAfterRecoveryOrIntentRefusal command files o → o.refusal ≡ None → TakesFirstPreferredSelection command (unstaged_files files) o
takes_first command files o (inl bad) none = absurd (refuses_none files (IntentBad bad.cause) o none bad.outcome)
takes_first command files o (inr (inl input)) none = absurd (refuses_none (unstaged_files files) input.refusal o none input.outcome)
takes_first command files o (inr (inr (inl unsatisfied))) none = absurd (refuses_none (unstaged_files files) Unsatisfied o none unsatisfied.outcome)
takes_first command files o (inr (inr (inr takes))) none = takes

module _ (recovers : (applet : Applet) → does_recover (effect_of applet) ≡ must_recover applet)
    (bad : (words : List (List ℕ)) (command : CommandLine) (files : Files) (o : Outcome) (cause : Cause) → command_of words ≡ Ok command → IsTrue (must_recover command.applet)
    → fault_of_intent (files intent_name) ≡ Some cause → IsOutcome (command_of words) files o → o ≡ just_refusal files (IntentBad cause))
    (works : (words : List (List ℕ)) (command : CommandLine) (files : Files) (o : Outcome) → command_of words ≡ Ok command → IsTrue (must_recover command.applet)
    → fault_of_intent (files intent_name) ≡ None → IsOutcome (command_of words) files o → IsOutcomeOverRecoveredFiles command (unstaged_files files) o)
    (selected : (command : CommandLine) (files : Files) (o : Outcome) → effect_of command.applet ≡ Changes → IsOutcomeOverRecoveredFiles command files o → o.refusal ≡ None → command.flags.simulate ≡ false → InstallsFirstSelectionFaultlessExceptLimits command files)
    (ends : (words : List (List ℕ)) (command : CommandLine) (files : Files) (o : Outcome) → command_of words ≡ Ok command → effect_of command.applet ≡ Changes → IsOutcome (command_of words) files o → IsChangeEndAfterRecoveryOrIntentRefusal command files o)
    (faults : (words : List (List ℕ)) (command : CommandLine) (files : Files) (o : Outcome) (refusal : Refusal) → command_of words ≡ Ok command → effect_of command.applet ≡ Changes
    → IsOutcome (command_of words) files o → o.refusal ≡ Some refusal → IsFaultOfRun command files refusal) where
  must : (applet : Applet) → effect_of applet ≡ Changes → IsTrue (must_recover applet)
  must applet changes = sym (recovers applet) ∙ ap does_recover changes

  packages : (words : List (List ℕ)) (command : CommandLine) (files : Files) (o : Outcome) → command_of words ≡ Ok command → effect_of command.applet ≡ Changes → IsOutcome (command_of words) files o → o.refusal ≡ None
      → command.flags.simulate ≡ false → InstallsFirstSelectionFaultlessExceptLimits command (unstaged_files files)
  packages words command files o named changes one none made = by (fault_of_intent (files intent_name)) refl
    where
      by : (fault : Option Cause) → fault_of_intent (files intent_name) ≡ fault → InstallsFirstSelectionFaultlessExceptLimits command (unstaged_files files)
      by None is = selected command (unstaged_files files) o changes (works words command files o named (must command.applet changes) is one) none made
      by (Some cause) is = absurd (refuses_none files (IntentBad cause) o none (bad words command files o cause named (must command.applet changes) is one))

  pub ended : (words : List (List ℕ)) (command : CommandLine) (files : Files) (o : Outcome) → command_of words ≡ Ok command → effect_of command.applet ≡ Changes → IsOutcome (command_of words) files o → EndsInTrueRefusalOrFirstSelection command files o
  ended words command files o named changes one =
      let end = ends words command files o named changes one in
      record {
        end = end;
        fault = λ refusal is. faults words command files o refusal named changes one is;
        first = λ none. takes_first command files o end none;
        packages = λ none made. packages words command files o named changes one none made;
      }
