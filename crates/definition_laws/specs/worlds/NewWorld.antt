-- Which entries are in world after a command. World before the command and after it is in byte order of names, with
-- one entry for each name, so the entries alone determine a world. The rules are in
-- `docs/commands.md`, "`add` and `del`", and in `docs/formats.md`, "World".
use Rattle.std.specs.Prelude.{◌≡◌, ◌≢◌, ◌⊎◌, ◌↔◌, ℕ, List, [], ◌∷◌, ◌++◌, Some, Ok, unwrap_or}
use Rattle.engine_core.specs.adb_fields.FirstPair.{IsIn}
use Rattle.engine_core.specs.change_inputs.Inputs.{Root, world_read_number}
use Rattle.command_core.specs.Command.{CommandLine}
use Rattle.command_core.specs.declared.command.Applet.{Applet}
use Rattle.command_core.specs.declared.command.Applet.TheVariants.{Add, Del}
use Rattle.command_core.specs.declared.operands.Operand.{Operand}
use Rattle.dep_core.specs.Dependency.{Dependency}
use Rattle.dep_core.specs.Reading.{dependency_of}
use Rattle.dep_core.specs.World.{IsWorldSortedByName, world_of}
use Rattle.engine_core.specs.make_info.Reads.{Reads}
use Rattle.root_names.specs.RootNames.{world_name}

-- ---- `add`

-- no operand is a dependency of this name
abbrev pub IsDependencyOfNoOperand : List ℕ → List Operand → Type 0
IsDependencyOfNoOperand name operands = (o : Operand) (d : Dependency) → IsIn o operands
    → dependency_of o.text ≡ Some d → d.name ≢ name

-- one of the operands is this dependency, and no later operand is a dependency of the same name
pub record IsAddedDependency (operands : List Operand) (d : Dependency) : Type 0 where
  -- the operands before this one
  pub front : List Operand
  -- the operand that is this dependency
  pub operand : Operand
  -- the operands after it
  pub behind : List Operand
  -- these make up the list of operands, in this order
  pub located : operands ≡ front ++ operand ∷ behind
  -- the text of the operand is read as this dependency
  pub says : dependency_of operand.text ≡ Some d
  -- no operand after it is a dependency of the same name
  pub last : IsDependencyOfNoOperand d.name behind

-- `after` is world after `add` with these operands, if world was `before`
pub record IsWorldAfterAdd (operands : List Operand) (before after : List Dependency) : Type 0 where
  -- the entries are dependencies in byte order of their names, each name once
  pub world : IsWorldSortedByName after
  -- a dependency is an entry exactly if it is the last operand of its name, or it was an entry before and no operand is
  -- a dependency of its name
  pub entries : (d : Dependency) → IsIn d after
      ↔ (IsAddedDependency operands d ⊎ (IsIn d before × IsDependencyOfNoOperand d.name operands))

-- ---- `del`

-- no operand has this name as its text
abbrev pub IsNoOperand : List ℕ → List Operand → Type 0
IsNoOperand name operands = (o : Operand) → IsIn o operands → o.text ≢ name

-- `after` is world after `del` with these operands, if world was `before`
pub record IsWorldAfterDel (operands : List Operand) (before after : List Dependency) : Type 0 where
  -- the entries are dependencies in byte order of their names, each name once
  pub world : IsWorldSortedByName after
  -- a dependency is an entry exactly if it was an entry before, and no operand is its name
  pub entries : (d : Dependency) → IsIn d after ↔ (IsIn d before × IsNoOperand d.name operands)

-- ---- each applet

-- the second world is that after a command with this applet and these operands, if world was the first one before; all
-- commands except `add` and `del` leave world unchanged
abbrev pub IsWorldAfterApplet :
    Applet → List Operand → List Dependency → List Dependency → Type 0
IsWorldAfterApplet Add operands before after = IsWorldAfterAdd operands before after
IsWorldAfterApplet Del operands before after = IsWorldAfterDel operands before after
IsWorldAfterApplet applet operands before after = after ≡ before

-- ---- world before and after, among the inputs of a change

-- `root` is what a change reads of a root: its world is that of the file of world, where an absent file counts as
-- empty, and its new world has what the command asks for
pub record HasOldWorldAsReadAndNewWorldAsRequested (command : CommandLine) (read : Reads)
    (root : Root) : Type 0 where
  -- world before the command is that of its file
  pub file : world_of (unwrap_or (read world_read_number world_name) []) ≡ Ok root.world
  -- the new world has what the command asks for
  pub asked : IsWorldAfterApplet command.applet command.operands root.world root.new_world
