-- Worked cases.
use Rattle.std.proofs.Common.{◌≡◌, ℕ, false, true, List, [], ◌∷◌, Option, Some, None, refl}
use Rattle.std.specs.Prelude.{codes}
use Rattle.adb_view.specs.Plain.{Plain, blob, more, none, obj}
use Rattle.own_core.specs.PlanLists.{sorted_distinct_names}
use Rattle.dep_core.specs.Dependency.{Dependency, dependency_from_parts}
use Rattle.solve_core.specs.candidate_core.Candidates.{Candidate, candidate_from_parts}
use Rattle.package_changes.specs.Changes.{change_of_name, changes_of}
use Rattle.package_changes.specs.Report.{lines_on_names_that_stay}
use Rattle.report_core.specs.Reports.{Install, Purge, Reinstall, Replace, Upgrade}
use Rattle.version_core.specs.Order.{is_version, tokens, version_cmp}
use Rattle.version_core.specs.Token.{later_component_lexeme_by_digits, next_lexeme, number_lexeme_by_digits}

abbrev info_of : List ℕ → List ℕ → Plain
info_of name version = obj (more (blob name) (more (blob version) none))

abbrev package_of : List ℕ → List ℕ → Plain
package_of name version = obj (more (info_of name version) none)

abbrev candidate_of : Option ℕ → List ℕ → List ℕ → List Dependency → Candidate
candidate_of repository name version depends =
    candidate_from_parts (info_of name version) name (Some version) [] depends [] [] 0 repository None true

abbrev needs : List ℕ → Dependency
needs name = dependency_from_parts name None 1 false None

abbrev a_and_b : List Plain
a_and_b = package_of (codes "a") (codes "1") ∷ package_of (codes "b") (codes "1") ∷ []

abbrev both_selected : List Candidate
both_selected =
    candidate_of None (codes "a") (codes "1") (needs (codes "b") ∷ []) ∷ candidate_of None (codes "b") (codes "1") [] ∷ []

-- `del b`, where a needs b
nothing_changes : changes_of (record { before = a_and_b; selected = both_selected; again = [] }) ≡ []
unfolding changes_of change_of_name sorted_distinct_names
nothing_changes = refl

b_stays : lines_on_names_that_stay a_and_b both_selected (codes "b" ∷ []) ≡ codes "b stays; required by: a\n"
unfolding sorted_distinct_names
b_stays = refl

-- `del a` then
both_go : changes_of (record { before = a_and_b; selected = []; again = [] }) ≡ Purge (codes "a") (codes "1") ∷ Purge (codes "b") (codes "1") ∷ []
unfolding changes_of change_of_name sorted_distinct_names
both_go = refl

none_stays : lines_on_names_that_stay a_and_b [] (codes "a" ∷ []) ≡ []
unfolding sorted_distinct_names
none_stays = refl

-- a name of world that no package had
b_comes : changes_of (record { before = []; selected = candidate_of (Some 1) (codes "b") (codes "1") [] ∷ []; again = [] }) ≡ Install (codes "b") (codes "1") ∷ []
unfolding changes_of change_of_name sorted_distinct_names
b_comes = refl

what_comes_does_not_stay : lines_on_names_that_stay [] (candidate_of (Some 1) (codes "b") (codes "1") [] ∷ []) (codes "b" ∷ []) ≡ []
unfolding sorted_distinct_names
what_comes_does_not_stay = refl

-- `fix b`
b_comes_again : changes_of (record { before = package_of (codes "b") (codes "1.0-r0") ∷ []; selected = candidate_of None (codes "b") (codes "1.0-r0") [] ∷ []; again = codes "b" ∷ [] }) ≡ Reinstall (codes "b") (codes "1.0-r0") ∷ []
unfolding changes_of change_of_name sorted_distinct_names
b_comes_again = refl

-- the same version with no id is another package
b_is_replaced : changes_of (record { before = package_of (codes "b") (codes "1") ∷ []; selected = candidate_of (Some 1) (codes "b") (codes "1") [] ∷ []; again = [] }) ≡ Replace (codes "b") (codes "1") (codes "1") ∷ []
unfolding changes_of change_of_name sorted_distinct_names is_version version_cmp tokens next_lexeme number_lexeme_by_digits later_component_lexeme_by_digits
b_is_replaced = refl

b_is_upgraded : changes_of (record { before = package_of (codes "b") (codes "1.9") ∷ []; selected = candidate_of (Some 1) (codes "b") (codes "1.10") [] ∷ []; again = [] }) ≡ Upgrade (codes "b") (codes "1.9") (codes "1.10") ∷ []
unfolding changes_of change_of_name sorted_distinct_names is_version version_cmp tokens next_lexeme number_lexeme_by_digits later_component_lexeme_by_digits
b_is_upgraded = refl
