-- The lists of a plan and the names that they hold.
use Rattle.std.proofs.Common.{◌≡◌, inl, inr, ◌∙◌, ◌↔◌, ℕ, Bool, true, cond, List, [], ◌∷◌, ◌++◌, map, Contains, Option, Some, None, is_some, refl, ap, sym, subst, true≢false}
use Rattle.std.specs.Prelude.{option_map}
use Rattle.std.specs.List.{cons_option, filter, filter_map, list_any}
use Rattle.std.specs.Str.{bytes_eq}
use Rattle.base_core.specs.Files.{Files}
use Rattle.base_core.specs.Listed.{AreSortedDistinctTexts}
use Rattle.base_core.proofs.Rising.{IsIn, contains_from_in, in_from_contains, pairs_from_rises}
use Rattle.file_owners.specs.db_core.Members.{Listing}
use Rattle.own_core.specs.Fate.{apk_new_name}
use Rattle.own_core.specs.FileChange.{FileChange}
use Rattle.own_core.specs.FilesAfter.{is_left_over_modified_file_kept, is_removed, is_listing_written_under_name, listing_written_as_apk_new_beside, listing_written_under_name}
use Rattle.own_core.specs.NamesAfter.{added_paths}
use Rattle.own_core.specs.PlanLists.{FileWrite, paths_with_apk_new_file, file_writes_of, kept_left_over_paths_of, sorted_distinct_names, old_paths, removals_of, file_write_under_name}
use Rattle.own_core.specs.Touched.{IsPlannedWrite}
use Rattle.own_core.proofs.InOrder.{filter_rises, from_filter, in_filter, in_left, in_map, in_order, in_right, order_rises}
use Rattle.own_core.proofs.Lists.{IsOneOf, any_is, contains_from_one, one_from_contains}
use Rattle.own_core.proofs.OwnedFiles.{aside_found, in_coming_paths, in_old_paths, written_is}
use Rattle.own_core.proofs.Untouched.{kept_is, removed_is}

-- ---- what is written

abbrev write_by : (List ℕ → Option Listing) → List ℕ → Option FileWrite
write_by found name = option_map (file_write_under_name name) (found name)

names_written : (found : List ℕ → Option Listing) (names : List (List ℕ)) → map (λ w. w.name) (filter_map (write_by found) names) ≡ filter (λ name. is_some (found name)) names
names_written found [] = refl
names_written found (x ∷ names) = by_found (found x) (names_written found names)
  where
    by_found : (o : Option Listing) → map (λ w. w.name) (filter_map (write_by found) names) ≡ filter (λ name. is_some (found name)) names
        → map (λ w. w.name) (cons_option (option_map (file_write_under_name x) o) (filter_map (write_by found) names)) ≡ cond (is_some o) (x ∷ filter (λ name. is_some (found name)) names) (filter (λ name. is_some (found name)) names)
    by_found None more = more
    by_found (Some l) more = ap (λ (rest : List (List ℕ)). x ∷ rest) more

one_written : (found : List ℕ → Option Listing) (names : List (List ℕ)) (w : FileWrite) → IsOneOf w (filter_map (write_by found) names) → (q : List ℕ) × (write_by found q ≡ Some w)
one_written found [] w here = absurd here
one_written found (x ∷ names) w here = by_write (write_by found x) refl here (one_written found names w)
  where
    by_write : (o : Option FileWrite) → write_by found x ≡ o → IsOneOf w (cons_option o (filter_map (write_by found) names)) → (IsOneOf w (filter_map (write_by found) names) → (q : List ℕ) × (write_by found q ≡ Some w))
        → (q : List ℕ) × (write_by found q ≡ Some w)
    by_write None e here f = f here
    by_write (Some v) e (inl is) f = (x, e ∙ ap (λ (u : FileWrite). Some u) (sym is))
    by_write (Some v) e (inr more) f = f more

written_one : (found : List ℕ → Option Listing) (names : List (List ℕ)) (q : List ℕ) (w : FileWrite) → IsIn q names → write_by found q ≡ Some w → IsOneOf w (filter_map (write_by found) names)
written_one found [] q w here e = here
written_one found (x ∷ names) q w here e = by_write (write_by found x) refl here (λ more. written_one found names q w more e)
  where
    by_write : (o : Option FileWrite) → write_by found x ≡ o → IsIn q (x ∷ names) → (IsIn q names → IsOneOf w (filter_map (write_by found) names)) → IsOneOf w (cons_option o (filter_map (write_by found) names))
    by_write None is (inl same) f = absurd (let none : None ≡ Some w = sym is ∙ (ap (write_by found) (sym same) ∙ e) in cc)
    by_write None is (inr more) f = f more
    by_write (Some v) is (inl same) f = inl (let both : Some v ≡ Some w = sym is ∙ (ap (write_by found) (sym same) ∙ e) in cc)
    by_write (Some v) is (inr more) f = inr (f more)

abbrev written_names : FileChange → List (List ℕ)
written_names change = sorted_distinct_names (added_paths change.members ++ map apk_new_name (added_paths change.members))

among_written : (change : FileChange) (files : Files) (name : List ℕ) (l : Listing) → listing_written_under_name change files name ≡ Some l → IsIn name (written_names change)
among_written change files name l e =
    let written = written_is change files name l e in
    let path = in_coming_paths change l.path l written.comes in
    in_order name (added_paths change.members ++ map apk_new_name (added_paths change.members))
    (elim written.under [
      | inl own ↦ in_left name (added_paths change.members) (map apk_new_name (added_paths change.members)) (subst (λ (q : List ℕ). IsIn q (added_paths change.members)) (sym own.0) path)
      | inr beside ↦ in_right name (added_paths change.members) (map apk_new_name (added_paths change.members))
          (subst (λ (q : List ℕ). IsIn q (map apk_new_name (added_paths change.members))) (sym beside.0) (in_map apk_new_name l.path (added_paths change.members) path))
    ])

pub some_listing : (o : Option Listing) → is_some o ≡ true → (l : Listing) × (o ≡ Some l)
some_listing None e = absurd (true≢false (sym e))
some_listing (Some l) e = (l, refl)

pub writes_names : (change : FileChange) (files : Files) → map (λ w. w.name) (file_writes_of change files) ≡ filter (is_listing_written_under_name change files) (written_names change)
unfolding file_writes_of
writes_names change files = names_written (listing_written_under_name change files) (written_names change)

pub writes_rise : (change : FileChange) (files : Files) → AreSortedDistinctTexts (map (λ w. w.name) (file_writes_of change files))
writes_rise change files =
    subst AreSortedDistinctTexts (sym (writes_names change files))
    (pairs_from_rises _ (filter_rises (is_listing_written_under_name change files) (written_names change) (order_rises (added_paths change.members ++ map apk_new_name (added_paths change.members)))))

pub writes_hold : (change : FileChange) (files : Files) (name : List ℕ) → Contains (map (λ w. w.name) (file_writes_of change files)) name ↔ (is_listing_written_under_name change files name ≡ true)
writes_hold change files name = (
  λ here. (from_filter (is_listing_written_under_name change files) (written_names change) name
      (in_from_contains _ name (subst (λ (names : List (List ℕ)). Contains names name) (writes_names change files) here))).1,
  λ written. (let found = some_listing (listing_written_under_name change files name) written in
      subst (λ (names : List (List ℕ)). Contains names name) (sym (writes_names change files))
      (contains_from_in _ name (in_filter (is_listing_written_under_name change files) (written_names change) name (among_written change files name found.0 found.1) written))),
)

write_is : (change : FileChange) (files : Files) (q : List ℕ) (w : FileWrite) (o : Option Listing) → listing_written_under_name change files q ≡ o → option_map (file_write_under_name q) o ≡ Some w → IsPlannedWrite change files w
write_is change files q w None is e = absurd (cc)
write_is change files q w (Some l) is e =
    let same : w ≡ file_write_under_name q l = (cc) in
    subst (IsPlannedWrite change files) (sym same) (record { listing = l; written = is; shown = refl })

pub writes_are : (change : FileChange) (files : Files) (w : FileWrite) → Contains (file_writes_of change files) w ↔ IsPlannedWrite change files w
unfolding file_writes_of
writes_are change files w = (
  λ here. (let found = one_written (listing_written_under_name change files) (written_names change) w (one_from_contains _ w here) in
      write_is change files found.0 w (listing_written_under_name change files found.0) refl found.1),
  λ is. contains_from_one _ w (written_one (listing_written_under_name change files) (written_names change) w.name w (among_written change files w.name is.listing is.written)
      (ap (option_map (file_write_under_name w.name)) is.written ∙ ap (λ (v : FileWrite). Some v) (sym is.shown))),
)

-- ---- what is removed, kept and laid aside

holds_just : (p : List ℕ → Bool) (names : List (List ℕ)) → ((q : List ℕ) → p q ≡ true → IsIn q names) → (q : List ℕ) → Contains (filter p (sorted_distinct_names names)) q ↔ (p q ≡ true)
holds_just p names all q = (
  λ here. (from_filter p (sorted_distinct_names names) q (in_from_contains _ q here)).1,
  λ passes. contains_from_in _ q (in_filter p (sorted_distinct_names names) q (in_order q names (all q passes)) passes),
)

rises_just : (p : List ℕ → Bool) (names : List (List ℕ)) → AreSortedDistinctTexts (filter p (sorted_distinct_names names))
rises_just p names = pairs_from_rises _ (filter_rises p (sorted_distinct_names names) (order_rises names))

pub removals_hold : (change : FileChange) (files : Files) (path : List ℕ) → Contains (removals_of change files) path ↔ (is_removed change files path ≡ true)
unfolding removals_of
removals_hold change files path =
    holds_just (is_removed change files) (old_paths change) (λ q removed. in_old_paths change q ((removed_is change files q removed).0).listed) path

pub removals_rise : (change : FileChange) (files : Files) → AreSortedDistinctTexts (removals_of change files)
unfolding removals_of
removals_rise change files = rises_just (is_removed change files) (old_paths change)

pub kept_hold : (change : FileChange) (files : Files) (path : List ℕ) → Contains (kept_left_over_paths_of change files) path ↔ (is_left_over_modified_file_kept change files path ≡ true)
unfolding kept_left_over_paths_of
kept_hold change files path = holds_just (is_left_over_modified_file_kept change files) (old_paths change) (λ q kept. in_old_paths change q ((kept_is change files q kept).0).listed) path

pub kept_rise : (change : FileChange) (files : Files) → AreSortedDistinctTexts (kept_left_over_paths_of change files)
unfolding kept_left_over_paths_of
kept_rise change files = rises_just (is_left_over_modified_file_kept change files) (old_paths change)

pub aside_hold : (change : FileChange) (files : Files) (path : List ℕ) → Contains (paths_with_apk_new_file change files) path ↔ (is_some (listing_written_as_apk_new_beside change files path) ≡ true)
unfolding paths_with_apk_new_file
aside_hold change files path =
    holds_just (λ path. is_some (listing_written_as_apk_new_beside change files path)) (added_paths change.members)
    (λ q laid. (let found = some_listing (listing_written_as_apk_new_beside change files q) laid in in_coming_paths change q found.0 ((aside_found change files q found.0 found.1).0))) path

pub aside_rise : (change : FileChange) (files : Files) → AreSortedDistinctTexts (paths_with_apk_new_file change files)
unfolding paths_with_apk_new_file
aside_rise change files = rises_just (λ path. is_some (listing_written_as_apk_new_beside change files path)) (added_paths change.members)

-- ---- no name is in two of the lists

pub written_or_removed : (change : FileChange) (files : Files) (name : List ℕ) → is_listing_written_under_name change files name ≡ true → is_removed change files name ≡ true → ⊥
written_or_removed change files name written removed = true≢false (sym written ∙ ((removed_is change files name removed).0).unwritten)

pub removed_or_kept : (change : FileChange) (files : Files) (name : List ℕ) → is_removed change files name ≡ true → is_left_over_modified_file_kept change files name ≡ true → ⊥
removed_or_kept change files name removed kept = true≢false (sym ((kept_is change files name kept).1) ∙ (removed_is change files name removed).1)

-- ---- as tests on names

pub written_any : (change : FileChange) (files : Files) (name : List ℕ) → list_any (bytes_eq name) (map (λ w. w.name) (file_writes_of change files)) ≡ is_listing_written_under_name change files name
written_any change files name =
    any_is name (map (λ w. w.name) (file_writes_of change files)) (is_listing_written_under_name change files name)
    (λ here. (writes_hold change files name).0 (contains_from_in _ name here))
    (λ written. in_from_contains _ name ((writes_hold change files name).1 written))

pub removed_any : (change : FileChange) (files : Files) (path : List ℕ) → list_any (bytes_eq path) (removals_of change files) ≡ is_removed change files path
removed_any change files path =
    any_is path (removals_of change files) (is_removed change files path)
    (λ here. (removals_hold change files path).0 (contains_from_in _ path here))
    (λ removed. in_from_contains _ path ((removals_hold change files path).1 removed))
