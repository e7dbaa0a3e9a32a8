-- The report of a change that is only simulated (apk(8)). The lines are defined in `docs/commands.md`,
-- "`add` and `del`", part "What is reported", which also says which lines `--simulate` leaves out.
use Rattle.std.specs.Prelude.{ℕ, Bool, not, ◌&&◌, List, ◌++◌, length, map, bytes_eq, sum_by}
use Rattle.std.specs.List.{filter, flat_map, list_any}
use Rattle.adb_view.specs.Plain.{Plain}
use Rattle.adb_view.specs.FieldIndexes.{INFO_INSTALLED_SIZE_INDEX}
use Rattle.adb_view.specs.Values.{entry_at_index, int_in}
use Rattle.own_core.specs.PlanLists.{sorted_distinct_names}
use Rattle.own_core.specs.db_core.Packages.{is_package_named}
use Rattle.dep_core.specs.Dependency.{Dependency}
use Rattle.solve_core.specs.candidate_core.Candidates.{Candidate, meets_dependency}
use Rattle.report_core.specs.Reports.{change_lines, report_line, still_needed_text, bytes_and_package_count_text}
use Rattle.package_changes.specs.Changes.{Replacement, changes_of, is_candidate_named}

-- the bytes that a candidate takes when it is installed, by its installed size
abbrev pub candidate_installed_size : Candidate → ℕ
candidate_installed_size c = int_in (entry_at_index c.info INFO_INSTALLED_SIZE_INDEX)

-- ---- kept packages that were to be removed

-- whether the first candidate has a positive dependency that the second satisfies
abbrev pub needs_candidate : Candidate → Candidate → Bool
needs_candidate c needed =
    list_any (λ (d : Dependency). not d.conflict && meets_dependency d needed) c.depends

-- whether `c` is another candidate than `needed`, and needs it
abbrev pub is_candidate_needed_by_other : Candidate → Candidate → Bool
is_candidate_needed_by_other needed c = not (bytes_eq c.name needed.name) && needs_candidate c needed

-- the names of the other selected candidates that need the candidate `needed`, in byte order
abbrev pub names_needing_candidate : List Candidate → Candidate → List (List ℕ)
names_needing_candidate selected needed =
    sorted_distinct_names (map (λ (c : Candidate). c.name)
    (filter (is_candidate_needed_by_other needed) selected))

-- the lines that say that the package `name` is kept: one for each selected candidate with this name, at most one
abbrev pub lines_on_name_that_stays : List Candidate → List ℕ → List ℕ
lines_on_name_that_stays selected name =
    flat_map (λ (c : Candidate). report_line (still_needed_text name (names_needing_candidate selected c)))
    (filter (is_candidate_named name) selected)

-- whether a package before has the name
abbrev pub was_installed : List Plain → List ℕ → Bool
was_installed before name = list_any (is_package_named name) before

-- The lines on those of the names `to_remove` that were installed before and are still selected, in byte order, each
-- once: they say that the package is kept, and which packages need it.
abbrev pub lines_on_names_that_stay : List Plain → List Candidate → List (List ℕ) → List ℕ
lines_on_names_that_stay before selected to_remove =
    flat_map (lines_on_name_that_stays selected)
    (filter (was_installed before) (sorted_distinct_names to_remove))

-- ---- the report

-- the last line of a simulated report: how many bytes and packages there are after the change, by the
-- sizes of the candidates
abbrev pub selected_sum_line : List Candidate → List ℕ
selected_sum_line selected =
    report_line (bytes_and_package_count_text (sum_by candidate_installed_size selected) (length selected))

-- the whole report of a simulated change: a line for each package that changes, a line for each kept package with one
-- of the names `to_remove`, and the sum
unfoldable pub simulated_report : Replacement → List (List ℕ) → List ℕ
simulated_report r to_remove =
    change_lines (changes_of r) ++ lines_on_names_that_stay r.before r.selected to_remove
    ++ selected_sum_line
    r.selected
