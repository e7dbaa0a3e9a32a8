-- The indexes of repositories; these are numbered from 1. The rules are in `docs/commands.md`, "`add` and `del`" (parts
-- "What is read" and "What is refused") and "Error lines"; the tests in `docs/formats.md`, "Tests of a container".
use Rattle.std.specs.Prelude.{ℕ, ◌+◌, List, [], ◌∷◌, Option, Some, None, Result, Ok, Err}
use Rattle.db_core.specs.adb_schema.Soundness.{container_fault_except_contents, payload_in, root_value_of_payload}
use Rattle.adb_view.specs.declared.tables.Which.TheVariants.{Index}
use Rattle.adb_view.specs.Plain.{Plain}
use Rattle.report_core.specs.declared.refusal.Refusal.{Refusal}
use Rattle.report_core.specs.declared.refusal.Refusal.TheVariants.{IndexBad, IndexMissing}
use Rattle.change_inputs.specs.Chains.{and_then, unless_cause}

-- the index file of repository number `n`, or the refusal if it is absent
abbrev pub file_or_index_missing : ℕ → Option (List ℕ) → Result (List ℕ) Refusal
file_or_index_missing n None = Err (IndexMissing n)
file_or_index_missing n (Some file) = Ok file

-- the files of all indexes, or the refusal of the first that is absent; `n` is the number of the first of these
-- repositories
abbrev pub index_files_from : ℕ → List (Option (List ℕ)) → Result (List (List ℕ)) Refusal
index_files_from n [] = Ok []
index_files_from n (f ∷ found) =
    and_then (file_or_index_missing n f) (λ file.
    and_then (index_files_from (n + 1) found) (λ files. Ok (file ∷ files)))

-- the value of the index of repository number `n`, or the refusal of its file, which fails a test of an index
abbrev pub index_in_file : ℕ → List ℕ → Result Plain Refusal
index_in_file n file =
    unless_cause (IndexBad n) (container_fault_except_contents Index file)
    (root_value_of_payload Index (payload_in file))

-- the values of all indexes, or the refusal of the first file that is no index; `n` is the number of the first of these
-- repositories
abbrev pub indexes_in_files : ℕ → List (List ℕ) → Result (List Plain) Refusal
indexes_in_files n [] = Ok []
indexes_in_files n (file ∷ files) =
    and_then (index_in_file n file) (λ index.
    and_then (indexes_in_files (n + 1) files) (λ indexes. Ok (index ∷ indexes)))

-- the values of all indexes, given the file under the path of each repository, or None; an absent file is refused
-- before a bad one
abbrev pub root_indexes : List (Option (List ℕ)) → Result (List Plain) Refusal
root_indexes found = and_then (index_files_from 1 found) (indexes_in_files 1)
