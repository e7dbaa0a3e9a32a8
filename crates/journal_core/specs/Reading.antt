-- The files as read while a whole file is replaced.
-- The rule is in `docs/crash-safety.md`, "A whole file replaced", the point on the files as read. It
-- serves the contract of `replace` of `journal_commit`.
use Rattle.std.specs.Prelude.{◌≡◌, ◌≢◌, ◌⊎◌, ℕ, List}
use Rattle.base_core.specs.Files.{Files}
use Rattle.base_core.specs.Tree.{TreeState, files_of}
use Rattle.journal_core.specs.Replacing.{files_after_scratch_replaces_name, scratch_name_of}

-- the files `now` are the files `old`, apart from the scratch name; or they are those with these bytes under the
-- name and no file under the scratch name
abbrev pub IsOldOrReplaced : List ℕ → List ℕ → List ℕ → Files → Files → Type 0
IsOldOrReplaced scratch name bytes old now =
    ((q : List ℕ) → q ≢ scratch → now q ≡ old q)
    ⊎ (now ≡ files_after_scratch_replaces_name scratch name bytes old)

-- the files as read are the files `old`, apart from the scratch name of this name; or they are those after the
-- replacement, with these bytes under the name
abbrev pub ReadsOldOrReplaced : List ℕ → List ℕ → Files → TreeState → Type 0
ReadsOldOrReplaced name bytes old v = IsOldOrReplaced (scratch_name_of name) name bytes old (files_of v)
