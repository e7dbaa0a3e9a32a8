-- The table of the names of the selected candidates, each with the candidate's place. No document has a rule for this:
-- it serves the contracts of `src/selected.rt`, `src/placed.rt` and `src/stays.rt`.
use Rattle.std.specs.Prelude.{ℕ, List, [], ◌∷◌, map, Option, Some, None, if◌then◌else◌, bytes_eq}
use Rattle.std.specs.Borrow.{Bor}
use Rattle.std.specs.List.{position_from}
use Rattle.adb_view.specs.Plain.{Plain}
use Rattle.own_core.specs.db_core.Packages.{is_package_named}
use Rattle.solve_core.specs.candidate_core.Rank.{SelectionProblem}
use Rattle.package_changes.specs.Placed.{PlacedName, name_with_change_and_given_places}

-- the table as contracts see it: each name with the place of its candidate
abbrev pub names_and_places : List (Bor (List ℕ) × ℕ) → List (List ℕ × ℕ)
names_and_places entries = map (λ (e : Bor (List ℕ) × ℕ). (e.0.now, e.1)) entries

-- the place that the table gives for a name, if the table has the name
abbrev pub place_paired_with_name : List ℕ → List (List ℕ × ℕ) → Option ℕ
place_paired_with_name name [] = None
place_paired_with_name name (e ∷ es) =
    if bytes_eq e.0 name then Some e.1 else place_paired_with_name name es

-- what happens to the package of a name, if `selected` is the table of the names and places of the selected candidates
abbrev pub name_with_change_and_places_by_table :
    List Plain → SelectionProblem → List (List ℕ) → List (List ℕ × ℕ) → List ℕ → PlacedName
name_with_change_and_places_by_table before pool again selected name =
    name_with_change_and_given_places before pool again name
    (position_from (is_package_named name) 0 before)
    (place_paired_with_name name selected)
