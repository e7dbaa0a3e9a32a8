-- A run that is not refused leaves the first selection.
use Rattle.std.proofs.Common.{◌≡◌, inl, inr, ◌∙◌, false, Some, None, Result, Ok, Err, refl, ap, sym, subst}
use Rattle.std.specs.Prelude.{if◌then◌else◌}
use Rattle.base_core.specs.Files.{Files}
use Rattle.outcome.specs.change_outcome.ChangeOutcome.{ChangeDone, change_or_refusal}
use Rattle.command_core.specs.Command.{CommandLine}
use Rattle.outcome.specs.engine_core.Changed.{IsFirstClashOrNoneIfRefused, IsFirstClashOrNoneIfSimulated, InputsAndReplacement, change_of_selected, simulated_change}
use Rattle.outcome.specs.engine_core.Wishes.{wishes_of}
use Rattle.outcome.specs.ChangeEnd.{IsChangeEnd, IsEndOfSelectedChange, TakesFirstPreferredSelection}
use Rattle.outcome.specs.Commands.{reads_in}
use Rattle.outcome.specs.Outcome.{Outcome, just_refusal}
use Rattle.report_core.specs.declared.refusal.Refusal.{Refusal}
use Rattle.report_core.specs.declared.refusal.Refusal.TheVariants.{Unsatisfied}
use Rattle.refusal_laws.specs.RunMade.{InstallsFirstSelectionFaultlessExceptLimits}
use Rattle.refusal_laws.proofs.CommandFaults.{kept_done}
use Rattle.refusal_laws.proofs.PackagesAfter.{selected_ones}
use Rattle.refusal_laws.proofs.TestsPassed.{change_made}

not_refused : (files : Files) (o : Outcome) (refusal : Refusal) → o ≡ just_refusal files refusal → o.refusal ≡ None → ⊥
not_refused files o refusal is none = let both : Some refusal ≡ None = sym (ap (λ (x : Outcome). x.refusal) is) ∙ none in cc (both)

ended : (command : CommandLine) (files : Files) (s : InputsAndReplacement) (c : Result ChangeDone Refusal) (o : Outcome) → IsEndOfSelectedChange command files s c o → o.refusal ≡ None → (done : ChangeDone) × (c ≡ Ok done)
ended command files s (Ok done) o end none = (done, refl)
ended command files s (Err refusal) o end none = absurd (not_refused files o refusal end.1 none)

takes_first : (command : CommandLine) (files : Files) (o : Outcome) → o.refusal ≡ None → command.flags.simulate ≡ false → TakesFirstPreferredSelection command files o → InstallsFirstSelectionFaultlessExceptLimits command files
takes_first command files o none off takes =
    let s : InputsAndReplacement = takes.selected in
    let clash = subst (λ (x : Result InputsAndReplacement Refusal). IsFirstClashOrNoneIfRefused command (reads_in files) files x takes.clash) takes.selects takes.is_clash in
    let done = ended command files s (change_of_selected command (reads_in files) files takes.clash s) o takes.end none in
    let ok : change_or_refusal s.inputs s.replacement (wishes_of command) (reads_in files) takes.clash files ≡ Ok done.0 =
    ap (λ b. kept_done (if b then Ok (simulated_change s.replacement (wishes_of command) files) else change_or_refusal s.inputs s.replacement (wishes_of command) (reads_in files) takes.clash files)) (sym off) ∙ done.1 in
    let made = change_made s.inputs s.replacement (wishes_of command) (reads_in files) takes.clash files done.0 ok
    (subst (λ b. IsFirstClashOrNoneIfSimulated b (wishes_of command) (reads_in files) files s takes.clash) off clash) in
    record {
      pool = takes.pool;
      is_pool = takes.is_pool;
      trace = takes.trace;
      first = takes.first;
      selected = s;
      selects = takes.selects;
      candidates = takes.candidates;
      found = made.0;
      members = made.1;
      are_selected = selected_ones s.inputs s.replacement (wishes_of command) (reads_in files) made.0 made.1;
      no_fault = made.2;
    }

pub first_selected : (command : CommandLine) (files : Files) (o : Outcome) → IsChangeEnd command files o → o.refusal ≡ None → command.flags.simulate ≡ false → InstallsFirstSelectionFaultlessExceptLimits command files
first_selected command files o (inl input) none off = absurd (not_refused files o input.refusal input.outcome none)
first_selected command files o (inr (inl unsatisfied)) none off = absurd (not_refused files o Unsatisfied unsatisfied.outcome none)
first_selected command files o (inr (inr takes)) none off = takes_first command files o none off takes
