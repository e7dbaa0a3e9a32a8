-- The names that count as written by a change, and those that it releases, given its files divided by what is done
-- with them (`Parts`).
-- The rule is in `docs/commands.md`, "What a change does with files", test 2. It serves the contracts
-- of `src/clashes.rt`.
use Rattle.std.specs.Prelude.{◌&&◌, ◌||◌, ◌++◌, ◌∷◌, [], ℕ, Bool, not, List, map, bytes_eq, is_some}
use Rattle.std.specs.List.{filter, find, list_any}
use Rattle.file_owners.specs.db_core.Seen.{members_of}
use Rattle.base_core.specs.ByteOrder.{bytes_cmp}
use Rattle.base_core.specs.Sorted.{sorted_by}
use Rattle.path_claim_lists.specs.path_claims.Claims.{is_claim_of_path}
use Rattle.own_core.specs.Fate.{apk_new_name}
use Rattle.own_core.specs.FilesAfter.{database_name, world_name}
use Rattle.path_claim_lists.specs.path_clashes.Clash.{NameChange}
use Rattle.own_core.specs.ClaimEntries.{is_added_at}
use Rattle.own_core.specs.Parts.{apk_new_claims_of, kept_claims_of}
use Rattle.own_core.specs.Sides.{claims_after, claims_before}
use Rattle.own_core.specs.declared.claim_change.ClaimChange.{ClaimChange}
use Rattle.own_core.specs.declared.parts.Parts.{Parts}

-- the names that count as written: those of the database and of world, the paths that added members list, and the
-- names `PATH.apk-new` of the files written aside
abbrev pub written_names_of_parts : ClaimChange → Parts → List (List ℕ)
written_names_of_parts change parts =
    database_name ∷ world_name ∷ [] ++ map (λ c. c.path)
    (filter (λ c. is_added_at (members_of change.members.now) c.member) (claims_after change))
    ++ map (λ c. apk_new_name c.path) (apk_new_claims_of parts)

-- whether the change releases the name: a package lists it before the change, no package lists it after the change,
-- and no modified file of the user is kept there
abbrev pub is_name_released_by_parts : ClaimChange → Parts → List ℕ → Bool
is_name_released_by_parts change parts name =
    is_some (find (is_claim_of_path name) (claims_before change))
    && not (is_some (find (is_claim_of_path name) (claims_after change))
    || is_some (find (is_claim_of_path name) (kept_claims_of parts)))

-- which names count as written and which are released, as the search for clashes needs them
abbrev pub name_change_of_parts : ClaimChange → Parts → NameChange
name_change_of_parts change parts = record {
  counts_as_written = λ name.
      list_any (bytes_eq name) (sorted_by bytes_cmp (written_names_of_parts change parts));
  does_release = is_name_released_by_parts change parts;
}
