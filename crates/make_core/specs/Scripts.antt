-- Scripts as values of the program.
-- No document has a rule for this: it serves the contracts of `src/packages/reading.rt` and
-- `src/packages/writing.rt`, whose types are slices.
use Rattle.std.specs.Prelude.{◌≡◌, List, Vec, map}
use Rattle.std.specs.declared.alloc.Global.{Global}
use Rattle.package_files.specs.Package as packages
use Rattle.make_core.specs.declared.packages.writing.Script.{Script}

-- a script as contracts see it: its type and its bytes
abbrev pub script_view : Script → packages.Script
script_view script = record { field = script.kind.now; bytes = script.bytes.items }

-- scripts as contracts see them, in their order
abbrev pub scripts_view : List Script → List packages.Script
scripts_view scripts = map script_view scripts

-- the script `script` of the program denotes `is`
abbrev pub IsScript : Script → packages.Script → Type 0
IsScript script is = script_view script ≡ is

-- the scripts `scripts` of the program denote `are`, one by one and in their order
abbrev pub AreScripts : Vec Script Global → List packages.Script → Type 0
AreScripts scripts are = scripts_view scripts.items ≡ are
