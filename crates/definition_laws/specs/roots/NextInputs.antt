-- The inputs of a later command that reads the root which a change has left. The rules are in
-- `docs/commands.md`, "`add` and `del`", what is read.
use Rattle.std.specs.Prelude.{◌≡◌, ℕ, List, Option}
use Rattle.engine_core.specs.change_inputs.Inputs.{Inputs}
use Rattle.engine_core.specs.change_outcome.ChangeOutcome.{ChangeDone}
use Rattle.engine_core.specs.change_outcome.MembersAfter.{found_members}
use Rattle.command_core.specs.Command.{CommandLine}
use Rattle.make_core.specs.make_info.Reads.{Reads}
use Rattle.report_core.specs.declared.refusal.Refusal.{Refusal}
use Rattle.report_core.specs.declared.refusal.Refusal.TheVariants.{IndexBad, IndexMissing, RepositoriesBad, Untrusted}
use Rattle.definition_laws.specs.roots.RootLeft.{LaterCommandsFindMembersAndNewWorld, database_of_members}

-- the inputs of a later command are those of the root that a change has left: the database is that of the packages
-- after the change, and world is the new world of the change
pub record HasDatabaseAndWorldOfRootLeft {command : CommandLine} {read : Reads} {chosen : Option (List ℕ)}
    {done : ChangeDone} (left : LaterCommandsFindMembersAndNewWorld command read chosen done)
    (inputs : Inputs) : Type 0 where
  -- the database of the later command has the packages after the earlier change
  pub database : inputs.root.database ≡ database_of_members (found_members left.found) left.bytes
  -- world of the later command is the new world of the earlier change
  pub world : inputs.root.world ≡ left.selected.inputs.root.new_world

-- the refusal is for the list of repositories, because it is not trusted, or for the index of a repository
abbrev pub IsRefusalOfRepositoriesOrIndex : Refusal → Type 0
IsRefusalOfRepositoriesOrIndex (RepositoriesBad line) = Unit {0}
IsRefusalOfRepositoriesOrIndex Untrusted = Unit {0}
IsRefusalOfRepositoriesOrIndex (IndexMissing n) = Unit {0}
IsRefusalOfRepositoriesOrIndex (IndexBad n cause) = Unit {0}
IsRefusalOfRepositoriesOrIndex other = ⊥
