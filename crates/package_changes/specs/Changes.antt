-- What happens to each package if a selection replaces the packages before.
-- The rules are in `docs/selection.md`, "What there is to choose from" (when a candidate is the
-- installed package), in `docs/commands.md`, "`add` and `del`" and "`upgrade` and `fix`", and in
-- `docs/formats.md`, "Versions" (their order).
use Rattle.std.specs.Prelude.{ℕ, Bool, not, ◌&&◌, ◌||◌, if◌then◌else◌, List, ◌++◌, map, Option, Some, None, bytes_eq, is_some}
use Rattle.std.specs.List.{filter_map, find, list_any}
use Rattle.std.specs.declared.cmp.Ordering.{Ordering}
use Rattle.std.specs.declared.cmp.Ordering.TheVariants.{Less, Equal, Greater}
use Rattle.adb_view.specs.Plain.{Plain}
use Rattle.adb_view.specs.FieldIndexes.{INFO_VERSION_INDEX}
use Rattle.adb_view.specs.Values.{entry_at_index, text_in}
use Rattle.own_core.specs.adb_fields.Repeated.{package_name}
use Rattle.own_core.specs.db_core.Packages.{installed_id, is_package_named}
use Rattle.own_core.specs.file_owners.Replaces.{package_version_text}
use Rattle.own_core.specs.PlanLists.{sorted_distinct_names}
use Rattle.solve_core.specs.candidate_core.Candidates.{Candidate, is_same_id_by_nonempty_prefix, version_of_text}
use Rattle.std.specs.Option.{option_cmp}
use Rattle.version_core.specs.Order.{version_cmp}
use Rattle.report_core.specs.Reports.{Change, Downgrade, Install, Purge, Reinstall, Replace, Upgrade}

-- a replacement of the packages before a change by selected candidates
pub record Replacement : Type 0 where
  -- the packages that are installed before the change
  pub before : List Plain
  -- the candidates that are to be installed after it
  pub selected : List Candidate
  -- the names of packages to be installed again, though the selected candidate is already installed
  pub again : List (List ℕ)

-- the text of a candidate's version, as the index or the database has it
abbrev pub candidate_version_text : Candidate → List ℕ
candidate_version_text c = text_in (entry_at_index c.info INFO_VERSION_INDEX)

-- whether the candidate has the name; what it provides does not count
abbrev pub is_candidate_named : List ℕ → Candidate → Bool
is_candidate_named name c = bytes_eq c.name name

-- Whether a candidate is the installed package that has this text of a version and this id: the candidate is of no
-- repository (then it comes from the database), or has the same text and the same id.
abbrev pub is_of_no_repository_or_same_version_and_id : List ℕ → List ℕ → Candidate → Bool
is_of_no_repository_or_same_version_and_id version id c =
    not (is_some c.repository)
    || (bytes_eq version (candidate_version_text c) && is_same_id_by_nonempty_prefix id c.id)

-- whether a candidate is this package of the database itself, so that the package is kept as it is
abbrev pub is_candidate_this_package : Plain → Candidate → Bool
is_candidate_this_package pkg c =
    is_of_no_repository_or_same_version_and_id (package_version_text pkg) (installed_id pkg) c

-- the change of the package `name` from the version `old` to the version `new`, given the order of old and new
abbrev pub version_change : List ℕ → List ℕ → List ℕ → Ordering → Change
version_change name old new Less = Upgrade name old new
version_change name old new Equal = Replace name old new
version_change name old new Greater = Downgrade name old new

-- the order of two texts of versions; a text that is no version precedes every version (no tested container has such a
-- text)
abbrev pub version_text_cmp : List ℕ → List ℕ → Ordering
version_text_cmp old new = option_cmp version_cmp (version_of_text old) (version_of_text new)

-- The change of the package `name`, installed as `pkg`, for which the candidate `c` is selected. `is_same` says whether
-- the candidate is the package itself: then nothing changes, or the package is reinstalled if `is_again` is true.
abbrev pub change_by_is_same_and_is_again : List ℕ → Plain → Candidate → Bool → Bool → Option Change
change_by_is_same_and_is_again name pkg c is_same is_again =
    if not is_same then Some (version_change name (package_version_text pkg) (candidate_version_text c)
    (version_text_cmp (package_version_text pkg) (candidate_version_text c)))
    else if is_again then Some (Reinstall name (candidate_version_text c)) else None

-- the change of a name, given the package before and the selected candidate with this name, each None if absent;
-- `is_again` says whether the name is to be installed again
abbrev pub change_between : Bool → List ℕ → Option Plain → Option Candidate → Option Change
change_between is_again name None None = None
change_between is_again name None (Some c) = Some (Install name (candidate_version_text c))
change_between is_again name (Some pkg) None = Some (Purge name (package_version_text pkg))
change_between is_again name (Some pkg) (Some c) =
    change_by_is_same_and_is_again name pkg c (is_candidate_this_package pkg c) is_again

-- the change of the package of this name, if it changes
unfoldable pub change_of_name : Replacement → List ℕ → Option Change
change_of_name r name =
    change_between (list_any (bytes_eq name) r.again) name
    (find (is_package_named name) r.before) (find (is_candidate_named name) r.selected)

-- the names of the packages before and of the selected ones, in byte order, each once
abbrev pub names_before_and_selected : Replacement → List (List ℕ)
names_before_and_selected r =
    sorted_distinct_names (map package_name r.before ++ map (λ (c : Candidate). c.name) r.selected)

-- the changes of packages, in byte order of names
unfoldable pub changes_of : Replacement → List Change
changes_of r = filter_map (change_of_name r) (names_before_and_selected r)
