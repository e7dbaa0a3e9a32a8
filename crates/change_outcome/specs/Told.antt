-- Refusals that have texts, for which memory may run out.
-- No document has a rule for this: it serves the contracts of `src/package.rt`; the lines of refusals
-- are defined in `docs/commands.md`, "Error lines".
use Rattle.std.specs.Prelude.{◌≡◌, ℕ, List, Result, Ok, Err}
use Rattle.std.specs.declared.alloc.AllocError.{AllocError}
use Rattle.change_inputs.specs.declared.root.Refused.{Refused}
use Rattle.change_inputs.specs.declared.root.Refused.TheVariants as Commands
use Rattle.report_core.specs.declared.refusal.Refusal.{Refusal}

-- the result is this refusal, or out of memory
abbrev pub IsRefusalReported : Refusal → Refused → Type 0
IsRefusalReported wanted (Commands.Refusal refusal) = refusal ≡ wanted
IsRefusalReported wanted Commands.Disk = ⊥
IsRefusalReported wanted Commands.Memory = Unit {0}
