-- Who needs a candidate, and which names are kept.
use Rattle.std.proofs.Common.{◌≡◌, ◌⊎◌, inl, inr, ◌↔◌, ◌∙◌, ℕ, ◌≤◌, Bool, true, false, cond, List, [], ◌∷◌, ◌++◌, length, map, Option, Some, None, refl, ap, sym, true≢false, arith}
use Rattle.std.specs.Prelude.{◌&&◌, not, is_some}
use Rattle.std.specs.List.{filter, find, flat_map, list_any}
use Rattle.std.specs.Option.{option_map_or}
use Rattle.std.specs.Str.{bytes_eq}
use Rattle.std.proofs.lemmas.List.{append-nil}
use Rattle.std.proofs.lemmas.Slice.Eq.{bytes_eq-Decides}
use Rattle.std.proofs.lemmas.Bool.{not-true, and_from, and_parts, or_cases, not_from_false}
use Rattle.change_outcome.specs.adb_fields.Repeated.{package_name}
use Rattle.adb_view.specs.Plain.{Plain}
use Rattle.base_core.specs.Listed.{AreSortedDistinctTexts}
use Rattle.base_core.specs.Lists.{IsIn}
use Rattle.base_core.proofs.Rising as rising
use Rattle.base_core.proofs.Booleans.{either_true}
use Rattle.tell_core.specs.candidate_core.Candidates.{Candidate, is_met_by_provides_entry, meets_by_own_name, meets_dependency}
use Rattle.change_outcome.proofs.own_core.InOrder.{filter_rises, from_filter, from_order, in_filter, in_order, order_rises}
use Rattle.change_outcome.specs.own_core.PlanLists.{sorted_distinct_names}
use Rattle.change_outcome.specs.db_core.Packages.{is_package_named}
use Rattle.dep_core.specs.Dependency.{Dependency}
use Rattle.dep_core.specs.Meets.{meets}
use Rattle.change_outcome.specs.package_changes.Changes.{is_candidate_named}
use Rattle.change_outcome.specs.package_changes.Report.{is_candidate_needed_by_other, names_needing_candidate, needs_candidate, lines_on_name_that_stays, lines_on_names_that_stay, was_installed}
use Rattle.report_core.specs.Reports.{report_line, report_lines, still_needed_text}
use Rattle.definition_laws.specs.answers.KeptNames.{IsEachNameSelectedAtMostOnce, HasStillNeededLines, IsNeededBySelectedName, IsProvidedBy, NeedsOther, still_needed_text_of_name}
use Rattle.definition_laws.proofs.answers.Members.{found_name, listed, missing_name, risen}
use Rattle.definition_laws.proofs.answers.Tests.{any_passes, in_passing, passes_any, passing_in, text_in, text_of}

-- ---- one candidate needs another

provided : (d : Dependency) (c : Candidate) → list_any (is_met_by_provides_entry d) c.provides ≡ true → IsProvidedBy d c
provided d c e =
    let h = any_passes (is_met_by_provides_entry d) c.provides e in
    let t = and_parts (not h.element.conflict) (meets d h.element.name h.element.version) h.passes in
    record { entry = h.element; listed = h.listed; positive = not-true h.element.conflict t.0; met = t.1 }

provides : (d : Dependency) (c : Candidate) → IsProvidedBy d c → list_any (is_met_by_provides_entry d) c.provides ≡ true
provides d c p = passes_any (is_met_by_provides_entry d) c.provides p.entry p.listed (and_from (not p.entry.conflict) _ (not_from_false p.entry.conflict p.positive) p.met)

is_met : (d : Dependency) (c : Candidate) → meets_dependency d c ≡ true → (meets d c.name c.version ≡ true) ⊎ IsProvidedBy d c
is_met d c e = elim (or_cases (meets_by_own_name d c) (list_any (is_met_by_provides_entry d) c.provides) e) [ inl own ↦ inl own | inr more ↦ inr (provided d c more) ]

met_by : (d : Dependency) (c : Candidate) → (meets d c.name c.version ≡ true) ⊎ IsProvidedBy d c → meets_dependency d c ≡ true
met_by d c (inl own) = either_true (meets_by_own_name d c) (list_any (is_met_by_provides_entry d) c.provides) (inl own)
met_by d c (inr p) = either_true (meets_by_own_name d c) (list_any (is_met_by_provides_entry d) c.provides) (inr (provides d c p))

abbrev positive_need : Candidate → Dependency → Bool
positive_need needed d = not d.conflict && meets_dependency d needed

needs_is : (c needed : Candidate) → needs_candidate c needed ≡ true → NeedsOther c needed
needs_is c needed e =
    let h = any_passes (positive_need needed) c.depends e in
    let t = and_parts (not h.element.conflict) (meets_dependency h.element needed) h.passes in
    record { dependency = h.element; listed = h.listed; positive = not-true h.element.conflict t.0; met = is_met h.element needed t.1 }

is_needs : (c needed : Candidate) → NeedsOther c needed → needs_candidate c needed ≡ true
is_needs c needed n =
    passes_any (positive_need needed) c.depends n.dependency n.listed
    (and_from (not n.dependency.conflict) (meets_dependency n.dependency needed) (not_from_false n.dependency.conflict n.positive) (met_by n.dependency needed n.met))

-- ---- the names of those that need it

abbrev name_of : Candidate → List ℕ
name_of c = c.name

other_name : (c needed : Candidate) → bytes_eq c.name needed.name ≡ false → c.name ≡ needed.name → ⊥
other_name c needed e same = true≢false (sym ((bytes_eq-Decides c.name needed.name).1 same) ∙ e)

name_other : (c needed : Candidate) → (c.name ≡ needed.name → ⊥) → bytes_eq c.name needed.name ≡ false
name_other c needed apart = go (bytes_eq c.name needed.name) refl
  where
    go : (b : Bool) → bytes_eq c.name needed.name ≡ b → b ≡ false
    go true is = absurd (apart ((bytes_eq-Decides c.name needed.name).0 is))
    go false is = refl

pub needed_under : (selected : List Candidate) (needed : Candidate) (name : List ℕ) → IsIn name (names_needing_candidate selected needed) ↔ IsNeededBySelectedName selected needed name
needed_under selected needed name = (
  λ at.
      let t = text_of name_of (filter (is_candidate_needed_by_other needed) selected) name (from_order name _ (risen name _ at)) in
      let f = in_passing (is_candidate_needed_by_other needed) selected t.element t.listed in
      let b = and_parts (not (bytes_eq t.element.name needed.name)) (needs_candidate t.element needed) f.1 in
      record {
        user = t.element;
        listed = f.0;
        named = t.is;
        another = λ same. other_name t.element needed (not-true _ b.0) (sym t.is ∙ same);
        needs = needs_is t.element needed b.1;
      },
  λ n.
      listed name (names_needing_candidate selected needed) (in_order name (map name_of (filter (is_candidate_needed_by_other needed) selected))
      (text_in name_of (filter (is_candidate_needed_by_other needed) selected) name n.user
      (passing_in (is_candidate_needed_by_other needed) selected n.user n.listed
      (and_from (not (bytes_eq n.user.name needed.name)) (needs_candidate n.user needed)
      (not_from_false _ (name_other n.user needed (λ same. n.another (n.named ∙ same)))) (is_needs n.user needed n.needs)))
      n.named)),
)

pub needed_rising : (selected : List Candidate) (needed : Candidate) → AreSortedDistinctTexts (names_needing_candidate selected needed)
needed_rising selected needed = rising.pairs_from_rises (names_needing_candidate selected needed) (order_rises (map name_of (filter (is_candidate_needed_by_other needed) selected)))

-- ---- the lines

abbrev has_selected : List Candidate → List ℕ → Bool
has_selected selected name = is_some (find (is_candidate_named name) selected)

abbrev first_of : List Candidate → Option Candidate
first_of [] = None
first_of (c ∷ cs) = Some c

find_first : (p : Candidate → Bool) (cs : List Candidate) → find p cs ≡ first_of (filter p cs)
find_first p [] = refl
find_first p (c ∷ cs) = go (p c) (find_first p cs)
  where
    go : (b : Bool) → find p cs ≡ first_of (filter p cs) → cond b (Some c) (find p cs) ≡ first_of (cond b (c ∷ filter p cs) (filter p cs))
    go true e = refl
    go false e = e

abbrev text_on : List Candidate → List ℕ → Option Candidate → List ℕ
text_on selected name o = option_map_or (λ (c : Candidate). still_needed_text name (names_needing_candidate selected c)) o []

-- the line of one name, before others
one_line : (selected : List Candidate) (name rest : List ℕ) (cs : List Candidate) → length cs ≤ 1
    → flat_map (λ (c : Candidate). report_line (still_needed_text name (names_needing_candidate selected c))) cs ++ rest
    ≡ cond (is_some (first_of cs)) (report_line (text_on selected name (first_of cs)) ++ rest) rest
one_line selected name rest [] few = refl
one_line selected name rest (c ∷ []) few = ap (λ (t : List ℕ). t ++ rest) (append-nil (report_line (still_needed_text name (names_needing_candidate selected c))))
one_line selected name rest (c ∷ d ∷ cs) few = absurd (omega (arith, few))

lines_of : (selected : List Candidate) → IsEachNameSelectedAtMostOnce selected → (names : List (List ℕ))
    → flat_map (lines_on_name_that_stays selected) names ≡ report_lines (map (still_needed_text_of_name selected) (filter (has_selected selected) names))
lines_of selected once [] = refl
lines_of selected once (x ∷ names) =
    one_line selected x (flat_map (lines_on_name_that_stays selected) names) (filter (is_candidate_named x) selected) (once x)
    ∙ ap (λ (o : Option Candidate). cond (is_some o) (report_line (text_on selected x o) ++ flat_map (lines_on_name_that_stays selected) names) (flat_map (lines_on_name_that_stays selected) names))
    (sym (find_first (is_candidate_named x) selected))
    ∙ ap (λ (r : List ℕ). cond (has_selected selected x) (report_line (still_needed_text_of_name selected x) ++ r) r) (lines_of selected once names)
    ∙ go (has_selected selected x)
  where
    go : (b : Bool)
        → cond b (report_line (still_needed_text_of_name selected x) ++ report_lines (map (still_needed_text_of_name selected) (filter (has_selected selected) names)))
        (report_lines (map (still_needed_text_of_name selected) (filter (has_selected selected) names)))
        ≡ report_lines (map (still_needed_text_of_name selected) (cond b (x ∷ filter (has_selected selected) names) (filter (has_selected selected) names)))
    go true = refl
    go false = refl

-- ---- which names

selected_in : (selected : List Candidate) (name : List ℕ) → has_selected selected name ≡ true → IsIn name (map name_of selected)
selected_in selected name e = go (find (is_candidate_named name) selected) refl e
  where
    go : (o : Option Candidate) → find (is_candidate_named name) selected ≡ o → is_some o ≡ true → IsIn name (map name_of selected)
    go None is e = absurd (true≢false (sym e))
    go (Some c) is e = listed name (map name_of selected) (found_name name_of name selected c is)

in_selected : (selected : List Candidate) (name : List ℕ) → IsIn name (map name_of selected) → has_selected selected name ≡ true
in_selected selected name at = go (find (is_candidate_named name) selected) refl
  where
    go : (o : Option Candidate) → find (is_candidate_named name) selected ≡ o → is_some o ≡ true
    go None is = absurd (missing_name name_of name selected is at)
    go (Some c) is = refl

was_in : (before : List Plain) (name : List ℕ) → was_installed before name ≡ true → IsIn name (map package_name before)
was_in before name e =
    let h = any_passes (is_package_named name) before e in
    listed name (map package_name before) (text_in package_name before name h.element h.listed (sym ((bytes_eq-Decides (package_name h.element) name).0 h.passes)))

in_before : (before : List Plain) (name : List ℕ) → IsIn name (map package_name before) → was_installed before name ≡ true
in_before before name at =
    let t = text_of package_name before name (risen name (map package_name before) at) in
    passes_any (is_package_named name) before t.element t.listed ((bytes_eq-Decides (package_name t.element) name).1 (sym t.is))

pub kept_lines : (before : List Plain) (selected : List Candidate) (to_remove : List (List ℕ)) → IsEachNameSelectedAtMostOnce selected
    → HasStillNeededLines before selected to_remove (lines_on_names_that_stay before selected to_remove)
kept_lines before selected to_remove once =
    let candidates : List (List ℕ) = filter (was_installed before) (sorted_distinct_names to_remove) in
    let names : List (List ℕ) = filter (has_selected selected) candidates in
    record {
      names = names;
      order = rising.pairs_from_rises names (filter_rises (has_selected selected) candidates (filter_rises (was_installed before) (sorted_distinct_names to_remove) (order_rises to_remove)));
      each = λ name. (
        λ at.
            let s = from_filter (has_selected selected) candidates name (risen name names at) in
            let b = from_filter (was_installed before) (sorted_distinct_names to_remove) name s.0 in
            (listed name to_remove (from_order name to_remove b.0), was_in before name b.1, selected_in selected name s.1),
        λ all.
            listed name names (in_filter (has_selected selected) candidates name
            (in_filter (was_installed before) (sorted_distinct_names to_remove) name (in_order name to_remove (risen name to_remove all.0)) (in_before before name all.1))
            (in_selected selected name all.2)),
      );
      text_is = lines_of selected once candidates;
    }
