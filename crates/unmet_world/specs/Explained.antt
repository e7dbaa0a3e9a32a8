-- The explanation of a command that was refused because nothing can be selected. It is described in
-- `docs/commands.md`, "Why nothing can be selected".
use Rattle.std.specs.Prelude.{◌≡◌, ℕ, List, [], ◌++◌, Result, Ok, Err}
use Rattle.base_core.specs.Tree.{TreeState}
use Rattle.search_tables.specs.candidate_core.Rank.{SelectionProblem, no_names}
use Rattle.dep_core.specs.Dependency.{Dependency}
use Rattle.dep_core.specs.Repositories.{Repository}
use Rattle.change_inputs.specs.Candidates.{root_pool}
use Rattle.change_inputs.specs.Inputs.{Inputs, inputs_of}
use Rattle.change_inputs.specs.Seen.{inputs_seen}
use Rattle.change_inputs.specs.declared.loaded.Loaded.{Loaded}
use Rattle.change_inputs.specs.declared.root.Refused.{Refused}
use Rattle.change_inputs.specs.declared.root.Refused.TheVariants as Refuseds
use Rattle.command_core.specs.Command.{CommandLine}
use Rattle.command_core.specs.declared.command.Applet.{Applet}
use Rattle.command_core.specs.declared.command.Applet.TheVariants.{Add, Del, Upgrade, Fix}
use Rattle.change_inputs.specs.package_files.Runs.{HoldsOfSomeReadsOfTree}
use Rattle.report_core.specs.declared.refusal.Refusal.{Refusal}
use Rattle.hint_core.specs.Repositories.{no_index_line}
use Rattle.unmet_world.specs.Lines.{IsExplanationOfUnmetWorldOfPool}

-- a text explains why no selection satisfies the world of a pool. `listed` has the entries of the file of world, and
-- the candidates are from these repositories
pub record ExplainsPool (listed : List Dependency) (repositories : List Repository)
    (pool : SelectionProblem) (text : List ℕ) : Type 0 where
  -- the explanation itself
  pub front : List ℕ
  pub explains : IsExplanationOfUnmetWorldOfPool pool listed repositories front
  -- the line on repositories follows it
  pub whole : text ≡ front ++ no_index_line repositories

-- a text explains the world of a pool; it is empty if the pool is refused, since there are too many candidates
abbrev pub ExplainsIfPool :
    List Dependency → List Repository → Result SelectionProblem Refusal → List ℕ → Type 0
ExplainsIfPool listed repositories (Ok pool) text = ExplainsPool listed repositories pool text
ExplainsIfPool listed repositories (Err refusal) text = text ≡ []

-- a text explains why no selection satisfies the new world of a command, by what was read of the root. Which packages
-- the command upgrades makes no difference
abbrev pub ExplainsInputs : Inputs → List ℕ → Type 0
ExplainsInputs inputs text =
    ExplainsIfPool inputs.root.world inputs.root.repositories (root_pool inputs no_names) text

-- a text explains the result of reading a root in the program; it is empty if the root is refused
abbrev pub ExplainsResult : Result Loaded Refused → List ℕ → Type 0
ExplainsResult (Ok loaded) text = ExplainsInputs (inputs_seen loaded) text
ExplainsResult (Err (Refuseds.Refusal refusal)) text = text ≡ []
ExplainsResult (Err Refuseds.Disk) text = ⊥
ExplainsResult (Err Refuseds.Memory) text = ⊥

-- a text explains what a command reads of a root; it is empty if the root is refused now, since others
-- may have changed it
abbrev pub ExplainsIfRead : Result Inputs Refusal → List ℕ → Type 0
ExplainsIfRead (Ok inputs) text = ExplainsInputs inputs text
ExplainsIfRead (Err refusal) text = text ≡ []

-- a text explains why no selection satisfies the new world of a command, by some reads. If the history of the tree is
-- observable, these are reads of the tree
abbrev pub ExplainsChange : CommandLine → List TreeState → List ℕ → Type 0
ExplainsChange command history text =
    HoldsOfSomeReadsOfTree history (λ read. ExplainsIfRead (inputs_of command read) text)

-- a text explains a command with this applet; it is empty if the command does not change packages
abbrev pub ExplainsForApplet : Applet → CommandLine → List TreeState → List ℕ → Type 0
ExplainsForApplet Add command history text = ExplainsChange command history text
ExplainsForApplet Del command history text = ExplainsChange command history text
ExplainsForApplet Upgrade command history text = ExplainsChange command history text
ExplainsForApplet Fix command history text = ExplainsChange command history text
ExplainsForApplet applet command history text = text ≡ []

-- a text explains a command line; it is empty if the words are no command
abbrev pub ExplainsCommandLine : Result CommandLine ℕ → List TreeState → List ℕ → Type 0
ExplainsCommandLine (Ok command) history text = ExplainsForApplet command.applet command history text
ExplainsCommandLine (Err place) history text = text ≡ []
