-- Index files that pass all tests. It serves the contracts of `IndexFiles` in `src/index.rt`; the tests
-- are defined in `docs/formats.md`, "Tests of a container".
use Rattle.std.specs.Prelude.{ℕ, Bool, List, Vec, map, is_none}
use Rattle.std.specs.List.{list_all}
use Rattle.std.specs.declared.alloc.Global.{Global}
use Rattle.db_core.specs.adb_schema.Soundness.{container_fault_except_contents, payload_in, root_value_of_payload}
use Rattle.adb_view.specs.declared.tables.Which.TheVariants.{Index}
use Rattle.adb_view.specs.Plain.{Plain}

-- the bytes of each file, in the same order
abbrev pub bytes_of_each : List (Vec ℕ Global) → List (List ℕ)
bytes_of_each files = map (λ file. file.items) files

-- whether a file passes all tests of an index
abbrev pub is_index : List ℕ → Bool
is_index file = is_none (container_fault_except_contents Index file)

-- whether each of several files passes all tests of an index
abbrev pub are_indexes : List (List ℕ) → Bool
are_indexes files = list_all is_index files

-- the value of an index file
abbrev pub index_of_file : List ℕ → Plain
index_of_file file = root_value_of_payload Index (payload_in file)
