-- Rows worked by hand: who is told of a contested path, and which refusals have a fault at all.
use Rattle.std.proofs.Common.{◌≡◌, ℕ, ◌==◌, Bool, List, [], ◌∷◌, None, Some, refl}
use Rattle.std.specs.Prelude.{◌&&◌}
use Rattle.base_core.specs.Files.{Files}
use Rattle.outcome.specs.change_inputs.Inputs.{Inputs}
use Rattle.outcome.specs.change_outcome.ChangeOutcome.{ChangeWishes}
use Rattle.outcome.specs.change_outcome.MembersAfter.{MemberFound}
use Rattle.command_core.specs.Command.{CommandLine}
use Rattle.outcome.specs.make_info.Reads.{Reads}
use Rattle.outcome.specs.path_claims.Contest.{first_with_unbeaten_rival, rivals_of, member_beating_all_others}
use Rattle.report_core.specs.declared.refusal.Refusal.TheVariants.{NoDatabase, Unsatisfied}
use Rattle.refusal_laws.specs.ChangeFaults.{IsFaultOfFiles}
use Rattle.refusal_laws.specs.InputFaults.{IsDatabaseAbsentAndInitdbNotGiven, IsFaultOfInput}

-- ---- of three members the second beats the first, and nobody the third

beats : ℕ → ℕ → Bool
beats x y = (x == 1) && (y == 0)

none_wins : member_beating_all_others beats (0 ∷ 1 ∷ 2 ∷ []) ≡ None
unfolding beats member_beating_all_others
none_wins = refl

-- so these two are told, though the second takes over the files of the first
two_are_told : first_with_unbeaten_rival beats (0 ∷ 1 ∷ 2 ∷ []) ≡ Some (rivals_of 0 1)
unfolding beats first_with_unbeaten_rival
two_are_told = refl

-- of two members that beat each other in no way, both are told
both_are_told : first_with_unbeaten_rival beats (0 ∷ 2 ∷ []) ≡ Some (rivals_of 0 2)
unfolding beats first_with_unbeaten_rival
both_are_told = refl

-- ---- a refusal of one kind is no fault of another

no_database : (command : CommandLine) (read : Reads) → IsFaultOfInput command read NoDatabase ≡ IsDatabaseAbsentAndInitdbNotGiven command read
no_database command read = refl

no_input : (command : CommandLine) (read : Reads) → IsFaultOfInput command read Unsatisfied ≡ ⊥
no_input command read = refl

no_files : (inputs : Inputs) (wishes : ChangeWishes) (files : Files) (found : List MemberFound) → IsFaultOfFiles inputs wishes files found Unsatisfied ≡ ⊥
no_files inputs wishes files found = refl
