-- The result of a choice among candidates. Serves the contract of `choose` in `src/choosing.rt`; the
-- rule is in `docs/selection.md`, "`unable to select packages`".
use Rattle.std.specs.Prelude.{◌≡◌, ℕ, List, Option, Some, None, Result, Ok, Err}
use Rattle.change_report.specs.change_inputs.declared.root.Refused.{Refused}
use Rattle.change_report.specs.change_inputs.declared.root.Refused.TheVariants.{Disk, Memory, Refusal as IsRefused}
use Rattle.report_core.specs.declared.refusal.Refusal.TheVariants.{Unsatisfied}

-- the result of `choose` for a choice: Ok with the chosen places; or a refusal, if no selection satisfies the new
-- world; out of memory says nothing of the choice
abbrev pub IsResultOfChoice : Option (List ℕ) → Result (List ℕ) Refused → Type 0
IsResultOfChoice chosen (Ok trace) = chosen ≡ Some trace
IsResultOfChoice chosen (Err (IsRefused refusal)) = (chosen ≡ None) × (refusal ≡ Unsatisfied)
IsResultOfChoice chosen (Err Disk) = ⊥
IsResultOfChoice chosen (Err Memory) = Unit {0}
