-- Why `list`, `search` and `policy` are refused. The refusals are in `docs/commands.md`, under each
-- command's name.
use Rattle.std.specs.Prelude.{◌≡◌, ◌⊎◌, ℕ, Ok}
use Rattle.outcome.specs.change_inputs.Inputs.{Inputs, inputs_of}
use Rattle.command_core.specs.Command.{CommandLine}
use Rattle.outcome.specs.make_info.Reads.{Reads}
use Rattle.report_core.specs.declared.refusal.Refusal.{Refusal}
use Rattle.report_core.specs.declared.refusal.Refusal.TheVariants.{TooMany}
use Rattle.refusal_laws.specs.InputFaults.{AreTooManyAndCountIsLimitPlusOne, IsFaultOfInput}

-- the inputs are read, and a refusal reports that they have more candidates than a pool holds
pub record HasTooManyCandidates (command : CommandLine) (read : Reads) (refusal : Refusal)
    : Type 0 where
  -- what the command reads of the root
  pub inputs : Inputs
  pub are_inputs : inputs_of command read ≡ Ok inputs
  -- the number that the refusal reports
  pub count : ℕ
  pub too_many : AreTooManyAndCountIsLimitPlusOne inputs count
  -- the refusal is *TooMany* with this number
  pub is : refusal ≡ TooMany count

-- a refusal of a query is true: of an input; or, if all inputs are read, it is that there are too many candidates
abbrev pub IsFaultOfInputOrTooManyCandidates : CommandLine → Reads → Refusal → Type 0
IsFaultOfInputOrTooManyCandidates command read refusal =
    IsFaultOfInput command read refusal ⊎ HasTooManyCandidates command read refusal
