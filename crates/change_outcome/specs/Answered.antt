-- How the result of a call relates to a definition.
-- No document has a rule for this: it serves the contract of `read_arrivals`.
use Rattle.std.specs.Prelude.{◌≡◌, Result, Ok, Err}
use Rattle.change_inputs.specs.declared.root.Refused.{Refused}
use Rattle.change_inputs.specs.declared.root.Refused.TheVariants.{Disk, Memory, Refusal}
use Rattle.report_core.specs.declared.refusal.Refusal as Refusals

-- The result of a call is as `wanted`: it has a value that denotes the wanted value (by `Denotes`), or is the wanted
-- refusal. An I/O error of the tree and out of memory say nothing about `wanted`.
abbrev pub DenotesUnlessDisk :
    {A B : Type 0} → (A → B → Type 0) → Result A Refused → Result B Refusals.Refusal → Type 0
DenotesUnlessDisk {A} {B} Denotes (Ok a) wanted = (b : B) × (wanted ≡ Ok b) × Denotes a b
DenotesUnlessDisk Denotes (Err (Refusal refusal)) wanted = wanted ≡ Err refusal
DenotesUnlessDisk Denotes (Err Disk) wanted = Unit {0}
DenotesUnlessDisk Denotes (Err Memory) wanted = Unit {0}
