-- Which names are present after a change; none of them may be a folder of another. The rules are in
-- `docs/commands.md`, "What a change does with files", test 2.
use Rattle.std.specs.Prelude.{ℕ, Bool, not, ◌&&◌, ◌||◌, List, ◌∷◌, map, is_some, option_and_then, bytes_eq}
use Rattle.std.specs.List.{filter, list_any}
use Rattle.base_core.specs.Files.{Files}
use Rattle.path_clashes.specs.Clash.{NameChange}
use Rattle.file_owners.specs.db_core.Members.{Member, is_added, listings_of_members}
use Rattle.own_core.specs.FileChange.{FileChange, is_listed_after_change, was_listed}
use Rattle.own_core.specs.FilesAfter.{database_name, is_left_over_modified_file_kept, listing_written_as_apk_new_beside, path_of_apk_new_name, world_name}

-- the paths that added packages list
abbrev pub added_paths : List Member → List (List ℕ)
added_paths members =
    map (λ l. l.path) (filter (λ l. is_added l.member) (listings_of_members members))

-- whether the name counts as written by the change: an added package lists it, or it is that of an `.apk-new` file
-- that is written, or that of the database or of world. `files` are those before the change
unfoldable pub counts_as_written : FileChange → Files → List ℕ → Bool
counts_as_written change files name =
    list_any (bytes_eq name) (database_name ∷ world_name ∷ added_paths change.members)
    || is_some (option_and_then (listing_written_as_apk_new_beside change files)
    (path_of_apk_new_name name))

-- whether the change releases the name: a package listed it before the change, no package lists it after, and no
-- modified file of the user is kept there
unfoldable pub is_released : FileChange → Files → List ℕ → Bool
is_released change files name =
    was_listed change name && not
    (is_listed_after_change change name || is_left_over_modified_file_kept change files name)

-- the change of names, for the search for the first clash: which names count as written, and which are released
abbrev pub name_change : FileChange → Files → NameChange
name_change change files =
    record {
      counts_as_written = counts_as_written change files;
      does_release = is_released change
          files;
    }
