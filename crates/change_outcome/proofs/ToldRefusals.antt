-- Scripts that would run, told as a refusal.
use Rattle.std.proofs.Common.{◌≡◌, ℕ, Bool, true, false, List, Option, Some, None, Result, Ok, Err, refl, sym, ap, ◌∙◌, subst}
use Rattle.adb_view.specs.Plain.{Plain}
use Rattle.change_inputs.specs.Answers.{Agrees}
use Rattle.change_inputs.specs.declared.root.Refused.{Refused}
use Rattle.change_inputs.specs.declared.root.Refused.TheVariants as Commands
use Rattle.change_outcome.specs.PackageFiles.{unless_script_number}
use Rattle.report_core.specs.declared.refusal.Refusal as Refusals
use Rattle.report_core.specs.declared.refusal.Refusal.TheVariants.{ScriptNeeded}
use Rattle.change_outcome.specs.Told.{IsRefusalReported}

-- a refusal that is told is the wanted one, or there was no memory
pub told_agrees : {A B : Type 0} (view : A → B) (wanted : Refusals.Refusal) (refused : Refused) (r : Result B Refusals.Refusal) → r ≡ Err wanted → IsRefusalReported wanted refused → Agrees view (Err refused) r
told_agrees view wanted (Commands.Refusal refusal) r is told = is ∙ ap (λ x. Err x) (sym told)
told_agrees view wanted Commands.Disk r is told = absurd told
told_agrees view wanted Commands.Memory r is told = tt
