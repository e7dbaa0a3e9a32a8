-- Changes with their places are the changes.
use Rattle.std.proofs.Common.{◌≡◌, ℕ, ◌+◌, Bool, true, false, cond, List, [], ◌∷◌, ◌++◌, map, length, Option, Some, None, refl, sym, ◌∙◌, ap, length-append}
use Rattle.std.specs.Prelude.{bytes_eq, option_and_then, option_map, slice_get}
use Rattle.std.specs.List.{cons_option, filter_map, find, list_any, position_from}
use Rattle.std.specs.Option.{option_map_or}
use Rattle.std.specs.List.Sorted.{IsPermutation}
use Rattle.std.proofs.lemmas.List.Sorted.{list_any-IsPermutation}
use Rattle.adb_view.specs.Plain.{Plain}
use Rattle.own_core.specs.db_core.Packages.{is_package_named}
use Rattle.solve_core.specs.candidate_core.Candidates.{Candidate}
use Rattle.solve_core.specs.candidate_core.Rank.{SelectionProblem, candidate_at, candidate_at_passes}
use Rattle.report_core.specs.Reports.{Change}
use Rattle.package_changes.specs.Changes.{change_between, change_of_name, changes_of, is_candidate_named, names_before_and_selected}
use Rattle.package_changes.specs.Placed.{PlacedChange, PlacedName, ReplacementWithSelectionAsPlaces, candidates_at, change_in, candidate_at_new_place, package_at_old_place, placed_change_of, placed_changes_of, name_with_change_and_old_and_pool_place, name_with_change_and_given_places, names_with_change_and_old_and_pool_place, replacement_of, selected_place}
use Rattle.package_changes.specs.SelectedNames.{place_paired_with_name, name_with_change_and_places_by_table}

-- ---- the first by its place

slice_after : {X : Type 0} (front : List X) (x : X) (xs : List X) → slice_get (front ++ x ∷ xs) (length front) ≡ Some x
slice_after [] x xs = refl
slice_after (y ∷ front) x xs = slice_after front x xs

joined_one : {X : Type 0} (front : List X) (x : X) (xs : List X) → front ++ x ∷ xs ≡ (front ++ x ∷ []) ++ xs
joined_one [] x xs = refl
joined_one (y ∷ front) x xs = ap (λ z. y ∷ z) (joined_one front x xs)

one_longer : {X : Type 0} (front : List X) (x : X) → length (front ++ x ∷ []) ≡ length front + 1
one_longer front x = length-append front (x ∷ [])

at_position : {X : Type 0} (p : X → Bool) (front xs : List X) → option_and_then (slice_get (front ++ xs)) (position_from p (length front) xs) ≡ find p xs
at_position p front [] = refl
at_position p front (x ∷ xs) = go (p x) (at_position p (front ++ x ∷ []) xs)
  where
    go : (t : Bool) → option_and_then (slice_get ((front ++ x ∷ []) ++ xs)) (position_from p (length (front ++ x ∷ [])) xs) ≡ find p xs
        → option_and_then (slice_get (front ++ x ∷ xs)) (cond t (Some (length front)) (position_from p (length front + 1) xs)) ≡ cond t (Some x) (find p xs)
    go true further = slice_after front x xs
    go false further =
        ap (λ z. option_and_then (slice_get z) (position_from p (length front + 1) xs)) (joined_one front x xs)
        ∙ (ap (λ n. option_and_then (slice_get ((front ++ x ∷ []) ++ xs)) (position_from p n xs)) (sym (one_longer front x)) ∙ further)

pub found_at_position : {X : Type 0} (p : X → Bool) (xs : List X) → option_and_then (slice_get xs) (position_from p 0 xs) ≡ find p xs
found_at_position p xs = at_position p [] xs

-- the first of the candidates at places
pub found_at_place : (pool : SelectionProblem) (p : Candidate → Bool) (places : List ℕ) → option_and_then (candidate_at pool) (find (candidate_at_passes pool p) places) ≡ find p (candidates_at pool places)
found_at_place pool p [] = refl
found_at_place pool p (n ∷ places) = go (candidate_at pool n) refl (found_at_place pool p places)
  where
    pick : (t : Bool) (c : Candidate) → candidate_at pool n ≡ Some c → option_and_then (candidate_at pool) (find (candidate_at_passes pool p) places) ≡ find p (candidates_at pool places)
        → option_and_then (candidate_at pool) (cond t (Some n) (find (candidate_at_passes pool p) places)) ≡ cond t (Some c) (find p (candidates_at pool places))
    pick true c e rest = e
    pick false c e rest = rest

    go : (c : Option Candidate) → candidate_at pool n ≡ c → option_and_then (candidate_at pool) (find (candidate_at_passes pool p) places) ≡ find p (candidates_at pool places)
        → option_and_then (candidate_at pool) (cond (option_map_or p c false) (Some n) (find (candidate_at_passes pool p) places)) ≡ find p (cons_option c (candidates_at pool places))
    go None e rest = rest
    go (Some c) e rest = pick (p c) c e rest

-- ---- changes

-- the change alone
pub change_alone : (o : Option Change) (old new : Option ℕ) → option_map (λ (c : PlacedChange). c.change) (option_map (λ change. record { change = change; old = old; new = new }) o) ≡ o
change_alone None old new = refl
change_alone (Some c) old new = refl

one_change : (p : ReplacementWithSelectionAsPlaces) (name : List ℕ) → option_map (λ (c : PlacedChange). c.change) (placed_change_of p name) ≡ change_of_name (replacement_of p) name
unfolding placed_change_of change_of_name
one_change p name =
    change_alone (change_between (list_any (bytes_eq name) p.again) name (option_and_then (slice_get p.before) (position_from (is_package_named name) 0 p.before)) (option_and_then (candidate_at p.pool) (selected_place p.pool p.trace name)))
    (position_from (is_package_named name) 0 p.before) (selected_place p.pool p.trace name)
    ∙ (ap (λ o. change_between (list_any (bytes_eq name) p.again) name o (option_and_then (candidate_at p.pool) (selected_place p.pool p.trace name))) (found_at_position (is_package_named name) p.before)
    ∙ ap (λ o. change_between (list_any (bytes_eq name) p.again) name (find (is_package_named name) p.before) o) (found_at_place p.pool (is_candidate_named name) p.trace))

mapped_option : {X Y : Type 0} (f : X → Y) (o : Option X) (xs : List X) → map f (cons_option o xs) ≡ cons_option (option_map f o) (map f xs)
mapped_option f None xs = refl
mapped_option f (Some x) xs = refl

mapped : {A X Y : Type 0} (f : X → Y) (g : A → Option X) (h : A → Option Y) → ((a : A) → option_map f (g a) ≡ h a) → (xs : List A) → map f (filter_map g xs) ≡ filter_map h xs
mapped f g h same [] = refl
mapped f g h same (a ∷ xs) =
    mapped_option f (g a) (filter_map g xs)
    ∙ (ap (λ o. cons_option o (map f (filter_map g xs))) (same a) ∙ ap (cons_option (h a)) (mapped f g h same xs))

pub changes_alone : (p : ReplacementWithSelectionAsPlaces) → map (λ (c : PlacedChange). c.change) (placed_changes_of p) ≡ changes_of (replacement_of p)
unfolding placed_changes_of changes_of
changes_alone p = mapped (λ (c : PlacedChange). c.change) (placed_change_of p) (change_of_name (replacement_of p)) (one_change p) (names_before_and_selected (replacement_of p))

-- ---- names with their places

-- the table leads to the places of the selected candidates
pub by_table : (p : ReplacementWithSelectionAsPlaces) (table : List (List ℕ × ℕ)) → ((name : List ℕ) → place_paired_with_name name table ≡ selected_place p.pool p.trace name) → (names : List (List ℕ)) → map (name_with_change_and_places_by_table p.before p.pool p.again table) names ≡ map (name_with_change_and_old_and_pool_place p) names
unfolding name_with_change_and_old_and_pool_place
by_table p table leads [] = refl
by_table p table leads (name ∷ names) =
    ap (λ o. name_with_change_and_given_places p.before p.pool p.again name (position_from (is_package_named name) 0 p.before) o ∷ map (name_with_change_and_places_by_table p.before p.pool p.again table) names) (leads name)
    ∙ ap (λ z. name_with_change_and_old_and_pool_place p name ∷ z) (by_table p table leads names)

-- the order of the names that are to be installed again does not matter
pub by_sorted : (before : List Plain) (pool : SelectionProblem) (again sorted : List (List ℕ)) (table : List (List ℕ × ℕ)) → IsPermutation again sorted → (names : List (List ℕ)) → map (name_with_change_and_places_by_table before pool sorted table) names ≡ map (name_with_change_and_places_by_table before pool again table) names
by_sorted before pool again sorted table same [] = refl
by_sorted before pool again sorted table same (name ∷ names) =
    ap (λ t. made t ∷ map (name_with_change_and_places_by_table before pool sorted table) names) (sym (list_any-IsPermutation (bytes_eq name) again sorted same))
    ∙ ap (λ z. name_with_change_and_places_by_table before pool again table name ∷ z) (by_sorted before pool again sorted table same names)
  where
    made : Bool → PlacedName
    made is_again = record {
      name = name;
      change = change_between is_again name (option_and_then (slice_get before) (position_from (is_package_named name) 0 before)) (option_and_then (candidate_at pool) (place_paired_with_name name table));
      old = position_from (is_package_named name) 0 before;
      new = place_paired_with_name name table;
    }

changes_of_map : {A X Y : Type 0} (f : X → Option Y) (g : A → X) (h : A → Option Y) → ((a : A) → f (g a) ≡ h a) → (xs : List A) → filter_map f (map g xs) ≡ filter_map h xs
changes_of_map f g h same [] = refl
changes_of_map f g h same (a ∷ xs) =
    ap (λ o. cons_option o (filter_map f (map g xs))) (same a) ∙ ap (cons_option (h a)) (changes_of_map f g h same xs)

change_in_name : (p : ReplacementWithSelectionAsPlaces) (name : List ℕ) → change_in (name_with_change_and_old_and_pool_place p name) ≡ placed_change_of p name
unfolding name_with_change_and_old_and_pool_place placed_change_of
change_in_name p name = refl

-- the changes among the names are the changes
pub changes_among : (p : ReplacementWithSelectionAsPlaces) → filter_map change_in (names_with_change_and_old_and_pool_place p) ≡ placed_changes_of p
unfolding names_with_change_and_old_and_pool_place placed_changes_of
changes_among p = changes_of_map change_in (name_with_change_and_old_and_pool_place p) (placed_change_of p) (change_in_name p) (names_before_and_selected (replacement_of p))

-- ---- what the places of a name lead to

pub own_name : (p : ReplacementWithSelectionAsPlaces) (name : List ℕ) → (name_with_change_and_old_and_pool_place p name).name ≡ name
unfolding name_with_change_and_old_and_pool_place
own_name p name = refl

pub own_change : (p : ReplacementWithSelectionAsPlaces) (name : List ℕ) → (name_with_change_and_old_and_pool_place p name).change ≡ change_of_name (replacement_of p) name
unfolding name_with_change_and_old_and_pool_place change_of_name
own_change p name =
    ap (λ o. change_between (list_any (bytes_eq name) p.again) name o (option_and_then (candidate_at p.pool) (selected_place p.pool p.trace name))) (found_at_position (is_package_named name) p.before)
    ∙ ap (λ o. change_between (list_any (bytes_eq name) p.again) name (find (is_package_named name) p.before) o) (found_at_place p.pool (is_candidate_named name) p.trace)

pub own_package : (p : ReplacementWithSelectionAsPlaces) (name : List ℕ) → package_at_old_place p.before (name_with_change_and_old_and_pool_place p name) ≡ find (is_package_named name) p.before
unfolding name_with_change_and_old_and_pool_place
own_package p name = found_at_position (is_package_named name) p.before

pub own_candidate : (p : ReplacementWithSelectionAsPlaces) (name : List ℕ) → candidate_at_new_place p.pool (name_with_change_and_old_and_pool_place p name) ≡ find (is_candidate_named name) (candidates_at p.pool p.trace)
unfolding name_with_change_and_old_and_pool_place
own_candidate p name = found_at_place p.pool (is_candidate_named name) p.trace
