-- The surroundings of a value that the code passes on. Serves the contracts of `src/text_walk.rt`; the
-- rules that depend on them are in `docs/formats.md`, "The texts" (401, 405, 303).
use Rattle.adb_schema.specs.Texts as T
use Rattle.adb_schema.specs.declared.text_walk.Surroundings.{Surroundings}

-- the surroundings of a value in the program, as those of the definition
abbrev pub surroundings_of : Surroundings → T.Surroundings
surroundings_of around = record {
  root = around.root;
  folder = around.folder.now;
  has_contents = around.has_contents;
}
