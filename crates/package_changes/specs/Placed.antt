-- The changes of a selection, with the places of the packages in the database and among the candidates. The rules are
-- those of the definitions in `Changes`.
use Rattle.std.specs.Prelude.{ℕ, List, Option, bytes_eq, map, option_map, option_and_then, slice_get}
use Rattle.std.specs.List.{filter_map, find, list_any, position_from}
use Rattle.adb_view.specs.Plain.{Plain}
use Rattle.own_core.specs.db_core.Packages.{is_package_named}
use Rattle.solve_core.specs.candidate_core.Candidates.{Candidate}
use Rattle.solve_core.specs.candidate_core.Rank.{SelectionProblem, candidate_at, candidate_at_passes}
use Rattle.report_core.specs.Reports.{Change}
use Rattle.package_changes.specs.Changes.{Replacement, change_between, is_candidate_named, names_before_and_selected}

-- a replacement in which the selected candidates are given by their places in the list of all candidates
pub record ReplacementWithSelectionAsPlaces : Type 0 where
  -- the packages that are installed before the change
  pub before : List Plain
  -- all candidates, with the new world
  pub pool : SelectionProblem
  -- the places of the selected candidates in the list of candidates
  pub trace : List ℕ
  -- the names of packages to be installed again, though the selected candidate is already installed
  pub again : List (List ℕ)

-- the candidates at places, in the order of the places
abbrev pub candidates_at : SelectionProblem → List ℕ → List Candidate
candidates_at pool places = filter_map (candidate_at pool) places

-- a replacement with the candidates themselves instead of their places
abbrev pub replacement_of : ReplacementWithSelectionAsPlaces → Replacement
replacement_of p =
    record { before = p.before; selected = candidates_at p.pool p.trace; again = p.again }

-- the place, among all candidates, of the first selected candidate with this name (`trace` are the places of the
-- selected ones); None if none has it
abbrev pub selected_place : SelectionProblem → List ℕ → List ℕ → Option ℕ
selected_place pool trace name = find (candidate_at_passes pool (is_candidate_named name)) trace

-- the change of a package, with its places before and after the change
pub record PlacedChange : Type 0 where
  -- the change, such as an installation or an upgrade
  pub change : Change
  -- the package's place among the packages before the change, counted from 0; None if it was not installed
  pub old : Option ℕ
  -- the place of the selected candidate among all candidates, counted from 0; None if none is selected
  pub new : Option ℕ

-- the change of the package with this name, which has the place `old` among the packages before and whose candidate has
-- the place `new`, with these places; None if the package is kept
abbrev pub placed_change_with :
    List Plain → SelectionProblem → List (List ℕ) → List ℕ → Option ℕ → Option ℕ → Option PlacedChange
placed_change_with before pool again name old new =
    option_map (λ change. record { change = change; old = old; new = new })
    (change_between (list_any (bytes_eq name) again) name (option_and_then (slice_get before) old)
    (option_and_then (candidate_at pool) new))

-- the change of the package with this name, with its places among the packages before and among the candidates; None if
-- the package is kept
unfoldable pub placed_change_of : ReplacementWithSelectionAsPlaces → List ℕ → Option PlacedChange
placed_change_of p name =
    placed_change_with p.before p.pool p.again name
    (position_from (is_package_named name) 0 p.before) (selected_place p.pool p.trace name)

-- the changes with their places, in byte order of names
unfoldable pub placed_changes_of : ReplacementWithSelectionAsPlaces → List PlacedChange
placed_changes_of p = filter_map (placed_change_of p) (names_before_and_selected (replacement_of p))

-- ---- each name of a package before or of a selected candidate

-- a name of a package before or of a selected candidate, with what happens to the package
pub record PlacedName : Type 0 where
  -- the name
  pub name : List ℕ
  -- the change of the package with this name, if it changes
  pub change : Option Change
  -- the package's place among the packages before the change, counted from 0; None if it was not installed
  pub old : Option ℕ
  -- the place of the selected candidate among all candidates, counted from 0; None if none is selected
  pub new : Option ℕ

-- what happens to the package with this name, even if it is kept. The package has the place `old` among the packages
-- before, and its candidate has the place `new`
abbrev pub name_with_change_and_given_places :
    List Plain → SelectionProblem → List (List ℕ) → List ℕ → Option ℕ → Option ℕ → PlacedName
name_with_change_and_given_places before pool again name old new = record {
  name = name;
  change = change_between (list_any (bytes_eq name) again) name
      (option_and_then (slice_get before) old) (option_and_then (candidate_at pool) new);
  old = old;
  new = new;
}

-- what happens to the package with this name, even if it is kept, with its places among the packages before and among
-- the candidates
unfoldable pub name_with_change_and_old_and_pool_place : ReplacementWithSelectionAsPlaces → List ℕ
    → PlacedName
name_with_change_and_old_and_pool_place p name =
    name_with_change_and_given_places p.before p.pool p.again name
    (position_from (is_package_named name) 0 p.before) (selected_place p.pool p.trace name)

-- each name of a package before or of a selected candidate, with its change, in byte order of the names
unfoldable pub names_with_change_and_old_and_pool_place : ReplacementWithSelectionAsPlaces → List PlacedName
names_with_change_and_old_and_pool_place p =
    map (name_with_change_and_old_and_pool_place p) (names_before_and_selected (replacement_of p))

-- the package before the change at the old place of a name, if there is one
abbrev pub package_at_old_place : List Plain → PlacedName → Option Plain
package_at_old_place before n = option_and_then (slice_get before) n.old

-- the selected candidate at the new place of a name, if there is one
abbrev pub candidate_at_new_place : SelectionProblem → PlacedName → Option Candidate
candidate_at_new_place pool n = option_and_then (candidate_at pool) n.new

-- the change of a name with its two places; None if its package is kept
abbrev pub change_in : PlacedName → Option PlacedChange
change_in n = option_map (λ change. record { change = change; old = n.old; new = n.new }) n.change
