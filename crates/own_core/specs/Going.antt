-- What is done with the files that the packages before the change list, claim by claim.
-- The rules are in `docs/commands.md`, "What a change does with files": which files are removed, and
-- which of those below `etc/` are kept.
use Rattle.std.specs.Prelude.{ℕ, Bool, not, ◌&&◌, List, Option, option_and_then, is_some}
use Rattle.std.specs.List.{find}
use Rattle.file_owners.specs.db_core.Members.{members_of_kept}
use Rattle.path_claim_lists.specs.path_claims.Claims.{PathClaim, is_claim_of_path}
use Rattle.own_core.specs.Fate.{is_protected_path}
use Rattle.own_core.specs.FileChange.{FileChange, is_listed_after_change}
use Rattle.own_core.specs.FilesAfter.{is_present_and_modified_from_entry, path_of_apk_new_name}
use Rattle.own_core.specs.ClaimEntries.{claim_entry}

-- whether the name is `PATH.apk-new` for the path of one of the claims `asides`
abbrev pub is_apk_new_name_of : List PathClaim → List ℕ → Bool
is_apk_new_name_of asides name =
    is_some (option_and_then (λ path. find (is_claim_of_path path) asides) (path_of_apk_new_name name))

-- whether no package lists the path after the change, and no file is written aside there; `asides` are the claims of
-- the files written aside
abbrev pub is_path_left_over : FileChange → List PathClaim → List ℕ → Bool
is_path_left_over change asides path =
    not (is_listed_after_change change path) && not (is_apk_new_name_of asides path)

-- whether the user's file is kept under the path of a claim of a package before the change: the path is protected,
-- the user changed the file, and there is no `--purge`. `found` are the bytes of this file, or None without a file
abbrev pub is_file_kept : FileChange → PathClaim → Option (List ℕ) → Bool
is_file_kept change c found =
    is_protected_path c.path
    && (not change.purge && is_present_and_modified_from_entry
    (claim_entry (members_of_kept change.old) c) found)
