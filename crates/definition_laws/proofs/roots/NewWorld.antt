-- The world that a change is made for is a world, and is read back.
use Rattle.std.proofs.Common.{◌≡◌, ℕ, List, [], ◌∷◌, Option, Some, None, Result, Ok, Err, refl, ap}
use Rattle.base_core.specs.Files.{Files}
use Rattle.engine_core.specs.own_core.FileChange.{FileChange}
use Rattle.engine_core.specs.own_core.FilesAfter.{DatabaseAndWorldAfter, files_after_change, new_world_bytes_unless_empty_and_absent, world_name}
use Rattle.engine_core.specs.change_inputs.Chains.{with_error_as_refusal}
use Rattle.engine_core.specs.change_inputs.World.{new_world, root_world, found_text_or_empty, world_with_operand, world_with_operands, world_without_operands}
use Rattle.command_core.specs.declared.command.Applet.{Applet}
use Rattle.command_core.specs.declared.command.Applet.TheVariants.{Add, Del}
use Rattle.command_core.specs.declared.operands.Operand.{Operand}
use Rattle.engine_core.specs.db_core.Members.{Listing}
use Rattle.dep_core.specs.Dependency.{Dependency}
use Rattle.dep_core.specs.Reading.{dependency_of}
use Rattle.dep_core.specs.World.{IsWorldSortedByName, world_with_dependency_put_in_name_order, world_without_name, world_of, world_text}
use Rattle.dep_core.proofs.ReadOut.{read-out}
use Rattle.dep_core.proofs.Worlds.{IsWorldSortedByName-world_with_dependency_put_in_name_order, IsWorldSortedByName-without}
use Rattle.dep_core.proofs.WorldWords.{world-words}
use Rattle.std.specs.Option.{option_map_or}
use Rattle.report_core.specs.declared.refusal.Refusal.TheVariants.{WorldBad}

-- ---- the new world

with_operand : (o : Operand) (world : List Dependency) → IsWorldSortedByName world → IsWorldSortedByName (world_with_operand o world)
with_operand o world is = by_text (dependency_of o.text) refl
  where
    by_text : (d : Option Dependency) → dependency_of o.text ≡ d → IsWorldSortedByName (option_map_or (λ d. world_with_dependency_put_in_name_order d world) d world)
    by_text None e = is
    by_text (Some d) e = IsWorldSortedByName-world_with_dependency_put_in_name_order d world (read-out o.text d e).0 is

with_operands : (operands : List Operand) (world : List Dependency) → IsWorldSortedByName world → IsWorldSortedByName (world_with_operands operands world)
with_operands [] world is = is
with_operands (o ∷ operands) world is = with_operands operands (world_with_operand o world) (with_operand o world is)

without_operands : (operands : List Operand) (world : List Dependency) → IsWorldSortedByName world → IsWorldSortedByName (world_without_operands operands world)
without_operands [] world is = is
without_operands (o ∷ operands) world is = without_operands operands (world_without_name o.text world) (IsWorldSortedByName-without o.text world is)

pub new_world_is : (applet : Applet) (operands : List Operand) (world : List Dependency) → IsWorldSortedByName world → IsWorldSortedByName (new_world applet operands world)
new_world_is Add operands world is = with_operands operands world is
new_world_is Del operands world is = without_operands operands world is
new_world_is other operands world is = is

-- ---- what is read

world_kept : (r : Result (List Dependency) ℕ) (world : List Dependency) → with_error_as_refusal WorldBad r ≡ Ok world → r ≡ Ok world
world_kept (Ok w) world e = let same : w ≡ world = cc in ap (λ (x : List Dependency). Ok x) same
world_kept (Err line) world e = absurd (cc (e))

pub read_world_is : (text : List ℕ) (world : List Dependency) → root_world text ≡ Ok world → IsWorldSortedByName world
read_world_is text world e = (world-words text world (world_kept (world_of text) world e)).in_order

-- ---- what is left

abbrev pub WorldsAreReadBack : Type 0
WorldsAreReadBack = (world : List Dependency) → IsWorldSortedByName world → world_of (world_text world) ≡ Ok world

pub root_world_left : WorldsAreReadBack → (world : List Dependency) → IsWorldSortedByName world → root_world (world_text world) ≡ Ok world
root_world_left back world is = ap (with_error_as_refusal WorldBad) (back world is)

text_of_world : (world : List ℕ) (old : Option (List ℕ)) → found_text_or_empty (new_world_bytes_unless_empty_and_absent world old) ≡ world
text_of_world [] None = refl
text_of_world [] (Some old) = refl
text_of_world (b ∷ bytes) old = refl

pub world_text_left : (change : FileChange) (bytes_of : Listing → List ℕ) (records : DatabaseAndWorldAfter) (files : Files) → found_text_or_empty (files_after_change change bytes_of records files world_name) ≡ records.world
unfolding files_after_change
world_text_left change bytes_of records files = text_of_world records.world (files world_name)
