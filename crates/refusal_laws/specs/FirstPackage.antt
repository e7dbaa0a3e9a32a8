-- Which added or removed package of a change is refused: the first with a fault, in byte order of the names. The order
-- is that of reason 9 in `docs/commands.md`, "`add` and `del`", part "What is refused".
use Rattle.std.specs.Prelude.{◌≡◌, ℕ, false, List, []}
use Rattle.outcome.specs.change_inputs.Inputs.{Inputs}
use Rattle.outcome.specs.change_outcome.ChangeOutcome.{ChangeWishes}
use Rattle.base_core.specs.ByteOrder.{precedes}
use Rattle.outcome.specs.make_info.Reads.{Reads}
use Rattle.outcome.specs.package_changes.Changes.{Replacement}
use Rattle.report_core.specs.declared.refusal.Refusal.{Refusal}
use Rattle.report_core.specs.declared.refusal.Refusal.TheVariants.{PackageBad, PackageDiffers, PackageMissing, ScriptNeeded}
use Rattle.refusal_laws.specs.ChangeFaults.{IsFaultOfPackage}

-- the name of the package that a refusal refuses; empty if it refuses no package
abbrev pub refused_name : Refusal → List ℕ
refused_name (PackageMissing name version) = name
refused_name (PackageBad name version cause) = name
refused_name (PackageDiffers name version field wanted found) = name
refused_name (ScriptNeeded name script) = name
refused_name other = []

-- the package that a refusal refuses is the first with a fault: no package with a fault precedes it in byte order of
-- the names, and it has no other fault
pub record HasNoOtherFaultInSameOrEarlierPackage (inputs : Inputs) (r : Replacement) (wishes : ChangeWishes)
    (read : Reads) (refusal : Refusal) : Type 0 where
  -- no package with a fault has a name that precedes the name of the refused package
  pub first : (other : Refusal) → IsFaultOfPackage inputs r wishes read other
      → precedes (refused_name other) (refused_name refusal) ≡ false
  -- each refusal that is true of the refused package is this one
  pub only : (other : Refusal) → IsFaultOfPackage inputs r wishes read other
      → refused_name other ≡ refused_name refusal → other ≡ refusal
