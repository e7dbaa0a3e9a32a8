-- Only what a selected candidate is named can stay.
use Rattle.std.proofs.Common.{◌≡◌, ℕ, Bool, true, false, cond, List, [], ◌∷◌, ◌++◌, map, Some, None, Bor, refl, sym, ◌∙◌, ap, subst}
use Rattle.std.specs.Prelude.{is_some, option_and_then}
use Rattle.std.specs.List.{filter, find, flat_map}
use Rattle.base_core.proofs.Options.{is_none}
use Rattle.adb_view.specs.Plain.{Plain}
use Rattle.solve_core.specs.candidate_core.Candidates.{Candidate}
use Rattle.solve_core.specs.candidate_core.Rank.{SelectionProblem, candidate_at}
use Rattle.report_core.specs.Reports.{report_line, still_needed_text}
use Rattle.package_changes.specs.Changes.{is_candidate_named}
use Rattle.package_changes.specs.Placed.{candidates_at, selected_place}
use Rattle.package_changes.specs.Report.{names_needing_candidate, lines_on_name_that_stays, was_installed}
use Rattle.package_changes.specs.SelectedNames.{place_paired_with_name}
use Rattle.package_changes.proofs.PlacedLaws.{found_at_place}

none_passes : {X : Type 0} (p : X → Bool) (xs : List X) → find p xs ≡ None → filter p xs ≡ []
none_passes p [] e = refl
none_passes {X} p (x ∷ xs) e = go (p x) e (none_passes p xs)
  where
    go : (t : Bool) → cond t (Some x) (find p xs) ≡ None → (find p xs ≡ None → filter p xs ≡ []) → cond t (x ∷ filter p xs) (filter p xs) ≡ []
    go true bad rest = absurd (cc)
    go false none rest = rest none

-- a name without place has no line
no_line : (pool : SelectionProblem) (trace : List ℕ) (name : List ℕ) → selected_place pool trace name ≡ None → lines_on_name_that_stays (candidates_at pool trace) name ≡ []
no_line pool trace name none =
    ap (flat_map (λ (c : Candidate). report_line (still_needed_text name (names_needing_candidate (candidates_at pool trace) c))))
    (none_passes (is_candidate_named name) (candidates_at pool trace)
    (sym (found_at_place pool (is_candidate_named name) trace) ∙ ap (option_and_then (candidate_at pool)) none))

-- names that no selected candidate has add nothing
pub only_selected_stay : (before : List Plain) (pool : SelectionProblem) (trace : List ℕ) (table : List (List ℕ × ℕ)) → ((name : List ℕ) → place_paired_with_name name table ≡ selected_place pool trace name) → (names : List (Bor (List ℕ)))
    → flat_map (lines_on_name_that_stays (candidates_at pool trace)) (filter (was_installed before) (map (λ n. n.now) (filter (λ (n : Bor (List ℕ)). is_some (place_paired_with_name n.now table)) names)))
    ≡ flat_map (lines_on_name_that_stays (candidates_at pool trace)) (filter (was_installed before) (map (λ n. n.now) names))
only_selected_stay before pool trace table leads [] = refl
only_selected_stay before pool trace table leads (x ∷ names) = go (is_some (place_paired_with_name x.now table)) refl (only_selected_stay before pool trace table leads names)
  where
    line : List ℕ → List ℕ
    line = lines_on_name_that_stays (candidates_at pool trace)

    few : List (Bor (List ℕ))
    few = filter (λ (n : Bor (List ℕ)). is_some (place_paired_with_name n.now table)) names

    lines : List (Bor (List ℕ)) → List ℕ
    lines ns = flat_map line (filter (was_installed before) (map (λ n. n.now) ns))

    with_name : (w : Bool) → lines few ≡ lines names
        → flat_map line (cond w (x.now ∷ filter (was_installed before) (map (λ n. n.now) few)) (filter (was_installed before) (map (λ n. n.now) few)))
        ≡ flat_map line (cond w (x.now ∷ filter (was_installed before) (map (λ n. n.now) names)) (filter (was_installed before) (map (λ n. n.now) names)))
    with_name true rest = ap (λ z. line x.now ++ z) rest
    with_name false rest = rest

    without_name : (w : Bool) → line x.now ≡ [] → lines few ≡ lines names
        → lines few ≡ flat_map line (cond w (x.now ∷ filter (was_installed before) (map (λ n. n.now) names)) (filter (was_installed before) (map (λ n. n.now) names)))
    without_name true none rest = rest ∙ ap (λ z. z ++ lines names) (sym none)
    without_name false none rest = rest

    go : (t : Bool) → is_some (place_paired_with_name x.now table) ≡ t → lines few ≡ lines names → lines (cond t (x ∷ few) few) ≡ lines (x ∷ names)
    go true e rest = with_name (was_installed before x.now) rest
    go false e rest = without_name (was_installed before x.now) (no_line pool trace x.now (sym (leads x.now) ∙ is_none (place_paired_with_name x.now table) e)) rest
