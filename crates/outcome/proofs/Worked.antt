-- Worked cases: what no row tells apart.
use Rattle.std.proofs.Common.{◌≡◌, ℕ, false, true, List, [], ◌∷◌, Some, None, refl}
use Rattle.std.specs.Prelude.{codes}
use Rattle.adb_view.specs.Plain.{Plain, blob, more, none, obj}
use Rattle.engine_core.specs.own_core.PlanLists.{sorted_distinct_names}
use Rattle.outcome.specs.DemoLines.{contents_of_demo_file}
use Rattle.dep_core.specs.Dependency.{Dependency, dependency_from_parts}
use Rattle.engine_core.specs.package_changes.Report.{lines_on_names_that_stay}
use Rattle.tell_core.specs.candidate_core.Candidates.{Candidate, candidate_from_parts}

-- ---- who needs a package that stays: in byte order, whatever is selected first

abbrev info_of : List ℕ → Plain
info_of name = obj (more (blob name) (more (blob (codes "1")) none))

abbrev installed_b : List Plain
installed_b = obj (more (info_of (codes "b")) none) ∷ []

abbrev selected : List ℕ → List Dependency → Candidate
selected name depends = candidate_from_parts (info_of name) name (Some (codes "1")) [] depends [] [] 0 None None true

abbrev needs_b : List Dependency
needs_b = dependency_from_parts (codes "b") None 1 false None ∷ []

abbrev c_b_a : List Candidate
c_b_a = selected (codes "c") needs_b ∷ selected (codes "b") [] ∷ selected (codes "a") needs_b ∷ []

needed_by_both : lines_on_names_that_stay installed_b c_b_a (codes "b" ∷ []) ≡ codes "b stays; required by: a c\n"
unfolding sorted_distinct_names
needed_by_both = refl

-- ---- what `demo` runs

first_text : contents_of_demo_file 1 ≡ codes "p00001\n"
first_text = refl
