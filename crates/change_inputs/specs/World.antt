-- World before a command (apk-world(5)) and after it. The rules are in `docs/formats.md`, "World", and
-- of the operands in `docs/commands.md`, "`add` and `del`".
use Rattle.std.specs.Prelude.{ℕ, List, [], ◌∷◌, map, Option, unwrap_or, Result}
use Rattle.std.specs.Option.{option_map_or}
use Rattle.command_core.specs.declared.command.Applet.{Applet}
use Rattle.command_core.specs.declared.command.Applet.TheVariants.{Add, Del}
use Rattle.command_core.specs.declared.operands.Operand.{Operand}
use Rattle.dep_core.specs.Dependency.{Dependency}
use Rattle.dep_core.specs.Reading.{dependency_of}
use Rattle.dep_core.specs.World.{world_with_dependency_put_in_name_order, world_without_name, world_of}
use Rattle.report_core.specs.declared.refusal.Refusal.{Refusal}
use Rattle.report_core.specs.declared.refusal.Refusal.TheVariants.{WorldBad}
use Rattle.change_inputs.specs.Chains.{with_error_as_refusal}

-- the text of the file of world, or of the list of repositories, given the file or None: an absent file counts as empty
abbrev pub found_text_or_empty : Option (List ℕ) → List ℕ
found_text_or_empty found = unwrap_or found []

-- world before a command, given the text of its file, or the refusal of the first bad line
abbrev pub root_world : List ℕ → Result (List Dependency) Refusal
root_world text = with_error_as_refusal WorldBad (world_of text)

-- ---- after the operands

-- the texts of operands, in their order
abbrev pub operand_texts : List Operand → List (List ℕ)
operand_texts operands = map (λ o. o.text) operands

-- world with the dependency that an operand states, which replaces the entry of the same name; world unchanged if the
-- operand is no dependency
abbrev pub world_with_operand : Operand → List Dependency → List Dependency
world_with_operand o world =
    option_map_or (λ d. world_with_dependency_put_in_name_order d world) (dependency_of o.text) world

-- world after each operand of `add` is inserted; of two with one name the later one is kept
abbrev pub world_with_operands : List Operand → List Dependency → List Dependency
world_with_operands [] world = world
world_with_operands (o ∷ operands) world = world_with_operands operands (world_with_operand o world)

-- world after the name of each operand of `del` is removed
abbrev pub world_without_operands : List Operand → List Dependency → List Dependency
world_without_operands [] world = world
world_without_operands (o ∷ operands) world =
    world_without_operands operands (world_without_name o.text world)

-- world after a command: `add` inserts its operands, `del` removes theirs, and the others leave world
-- as it is
abbrev pub new_world : Applet → List Operand → List Dependency → List Dependency
new_world Add operands world = world_with_operands operands world
new_world Del operands world = world_without_operands operands world
new_world applet operands world = world
