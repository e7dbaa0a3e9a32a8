-- The paths of files that differ rise in byte order.
use Rattle.std.proofs.Common.{◌≡◌, ◌⊎◌, inl, inr, ℕ, Bool, true, false, List, [], ◌∷◌, ◌++◌, map, Option, Some, None, refl, ap, sym, ◌∙◌, subst, Ordering, Less, Equal, Greater}
use Rattle.std.specs.Prelude.{if◌then◌else◌}
use Rattle.std.specs.List.{flat_map}
use Rattle.std.specs.Ordering.{is_gt, ordering_reverse}
use Rattle.std.proofs.lemmas.Cmp.{nat_list_cmp_total}
use Rattle.std.proofs.lemmas.Map.Lookups.{exact_bytes}
use Rattle.path_clashes.specs.adb_fields.FirstPair.{IsIn}
use Rattle.path_clashes.specs.adb_fields.Once.{AreDistinctNames}
use Rattle.path_clashes.specs.adb_fields.Repeated.{entries_of_field_at_index}
use Rattle.db_core.specs.adb_schema.SoundContainers.{IsSoundValue}
use Rattle.adb_view.specs.FieldIndexes.{IDB_PACKAGES_INDEX}
use Rattle.adb_view.specs.Plain.{Plain}
use Rattle.adb_view.specs.declared.tables.Which.TheVariants.{Idb}
use Rattle.base_core.specs.Files.{Files}
use Rattle.base_core.specs.Listed.{AreSortedDistinctTexts}
use Rattle.base_core.specs.Sorted.{sorted_by, with_element_inserted}
use Rattle.base_core.proofs.Rising as Names
use Rattle.base_core.proofs.Rising.{order, pairs_from_rises}
use Rattle.audit_core.specs.Audit.{FileDifference, path_difference_if_any, difference_from_entry}
use Rattle.audit_core.specs.Differences.{file_differences}
use Rattle.audit_core.specs.Records.{PathAndEntry, database_records, record_path_cmp, records_by_path}
use Rattle.audit_core.specs.declared.comparing.Difference.{Difference}
use Rattle.audit_core.proofs.PathsOnce.{database_once, record_paths}

abbrev paths : List PathAndEntry → List (List ℕ)
paths rs = map (λ r. r.path) rs

as_in : (q : List ℕ) (names : List (List ℕ)) → Names.IsIn q names → IsIn q names
as_in q [] here = here
as_in q (name ∷ names) (inl is) = inl is
as_in q (name ∷ names) (inr here) = inr (as_in q names here)

-- ---- a sorted list

put_paths : (q : List ℕ) (x : PathAndEntry) (ys : List PathAndEntry) → Names.IsIn q (paths (with_element_inserted record_path_cmp x ys)) → (q ≡ x.path) ⊎ Names.IsIn q (paths ys)
put_paths q x [] here = here
put_paths q x (y ∷ ys) here = go (is_gt (record_path_cmp x y)) (put_paths q x ys) here
  where
    go : (b : Bool) → (Names.IsIn q (paths (with_element_inserted record_path_cmp x ys)) → (q ≡ x.path) ⊎ Names.IsIn q (paths ys))
        → Names.IsIn q (paths (if b then y ∷ with_element_inserted record_path_cmp x ys else x ∷ y ∷ ys)) → (q ≡ x.path) ⊎ Names.IsIn q (paths (y ∷ ys))
    go true rest (inl is) = inr (inl is)
    go true rest (inr more) = elim (rest more) [ inl is ↦ inl is | inr old ↦ inr (inr old) ]
    go false rest here = here

sorted_paths : (q : List ℕ) (rs : List PathAndEntry) → Names.IsIn q (paths (sorted_by record_path_cmp rs)) → Names.IsIn q (paths rs)
sorted_paths q [] here = here
sorted_paths q (r ∷ rs) here = elim (put_paths q r (sorted_by record_path_cmp rs) here) [ inl is ↦ inl is | inr old ↦ inr (sorted_paths q rs old) ]

above : (x y : List ℕ) (names : List (List ℕ)) → order x y ≡ Less → Names.Rises (y ∷ names) → (q : List ℕ) → Names.IsIn q (y ∷ names) → order x q ≡ Less
above x y names less rises q (inl is) = ap (order x) is ∙ less
above x y names less rises q (inr old) = nat_list_cmp_total.trans x y q less (rises.0 q old)

later : (x y : List ℕ) (names : List (List ℕ)) → order x y ≡ Greater → Names.Rises (y ∷ names) → (q : List ℕ) → (q ≡ x) ⊎ Names.IsIn q names → order y q ≡ Less
later x y names greater rises q (inl is) = ap (order y) is ∙ nat_list_cmp_total.antisymm y x ∙ ap ordering_reverse greater
later x y names greater rises q (inr old) = rises.0 q old

order_is : (x y : PathAndEntry) → record_path_cmp x y ≡ order x.path y.path
unfolding record_path_cmp
order_is x y = refl

rises_put : (x : PathAndEntry) (ys : List PathAndEntry) → Names.Rises (paths ys) → ((q : List ℕ) → Names.IsIn q (paths ys) → q ≡ x.path → ⊥) → Names.Rises (paths (with_element_inserted record_path_cmp x ys))
rises_put x [] rises new = (λ q here. absurd here, tt)
rises_put x (y ∷ ys) rises new = go (order x.path y.path) refl (order_is x y) (rises_put x ys rises.1 (λ q h. new q (inr h)))
  where
    go : (o : Ordering) → order x.path y.path ≡ o → record_path_cmp x y ≡ order x.path y.path → Names.Rises (paths (with_element_inserted record_path_cmp x ys)) → Names.Rises (paths (with_element_inserted record_path_cmp x (y ∷ ys)))
    go o is same rest = subst (λ (b : Ordering). Names.Rises (paths (if is_gt b then y ∷ with_element_inserted record_path_cmp x ys else x ∷ y ∷ ys))) (sym (same ∙ is)) (by o is)
      where
        by : (o : Ordering) → order x.path y.path ≡ o → Names.Rises (paths (if is_gt o then y ∷ with_element_inserted record_path_cmp x ys else x ∷ y ∷ ys))
        by Less is = (above x.path y.path (paths ys) is rises, rises)
        by Equal is = absurd (new y.path (inl refl) (sym (exact_bytes x.path y.path is)))
        by Greater is = (λ q here. later x.path y.path (paths ys) is rises q (put_paths q x ys here), rest)

rises_sorted : (rs : List PathAndEntry) → AreDistinctNames (paths rs) → Names.Rises (paths (sorted_by record_path_cmp rs))
rises_sorted [] d = tt
rises_sorted (r ∷ rs) d =
    rises_put r (sorted_by record_path_cmp rs) (rises_sorted rs d.1)
    (λ q here is. d.0 (subst (λ (name : List ℕ). IsIn name (paths rs)) is (as_in q (paths rs) (sorted_paths q rs here))))

-- ---- those that differ

module _ (how : PathAndEntry → Option Difference) where
  abbrev found_of : List PathAndEntry → List FileDifference
  found_of rs = flat_map (λ r. path_difference_if_any r.path (how r)) rs

  abbrev paths_found : List PathAndEntry → List (List ℕ)
  paths_found rs = map (λ d. d.path) (found_of rs)

  found_is_in : (q : List ℕ) (rs : List PathAndEntry) → Names.IsIn q (paths_found rs) → Names.IsIn q (paths rs)
  found_is_in q [] here = here
  found_is_in q (r ∷ rs) here = go (how r) (found_is_in q rs) here
    where
      go : (o : Option Difference) → (Names.IsIn q (paths_found rs) → Names.IsIn q (paths rs)) → Names.IsIn q (map (λ d. d.path) (path_difference_if_any r.path o ++ found_of rs)) → Names.IsIn q (paths (r ∷ rs))
      go None rest here = inr (rest here)
      go (Some difference) rest (inl is) = inl is
      go (Some difference) rest (inr more) = inr (rest more)

  rises_found : (rs : List PathAndEntry) → Names.Rises (paths rs) → Names.Rises (paths_found rs)
  rises_found [] rises = tt
  rises_found (r ∷ rs) rises = go (how r) (rises_found rs rises.1)
    where
      go : (o : Option Difference) → Names.Rises (paths_found rs) → Names.Rises (map (λ d. d.path) (path_difference_if_any r.path o ++ found_of rs))
      go None rest = rest
      go (Some difference) rest = (λ q here. rises.0 q (found_is_in q rs here), rest)

pub differences_rise : (files : Files) (database : Plain) → IsSoundValue Idb database → AreSortedDistinctTexts (map (λ d. d.path) (file_differences files (entries_of_field_at_index IDB_PACKAGES_INDEX database)))
unfolding file_differences records_by_path
differences_rise files database sound =
    let packages = entries_of_field_at_index IDB_PACKAGES_INDEX database in
    pairs_from_rises (map (λ d. d.path) (file_differences files packages))
    (rises_found (λ r. difference_from_entry r.entry (files r.path)) (records_by_path packages)
    (rises_sorted (database_records packages) (subst AreDistinctNames (sym (record_paths packages)) (database_once database sound))))
