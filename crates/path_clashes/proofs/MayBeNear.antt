-- What may be a clash with one name, over a tree that is not observable.
use Rattle.std.proofs.Common.{◌≡◌, ◌⊎◌, ⊎_elim, inl, inr, ℕ, ◌<◌, ◌≤◌, true, List, length, take, Option, Some, None, refl, sym, subst, arith}
use Rattle.std.proofs.lemmas.Bool.{cases_lt}
use Rattle.base_core.specs.Files.{IsFolderOf}
use Rattle.path_clashes.specs.Clash.{NameChange}
use Rattle.path_clashes.specs.NearName.{IsShortestFolderOrNone, IsFirstNameBelowOrNone, MayBeClashNear, files_with_only_name}
use Rattle.path_clashes.proofs.Above.{longer_folder, shared_folder}
use Rattle.path_clashes.proofs.NearClash.{clash_above, clash_below, counts_is_after}
use Rattle.path_clashes.proofs.PairOrder.{same_other}

pub may_be_none : (change : NameChange) (before name : List ℕ) → before ≡ name → MayBeClashNear change before name None
may_be_none change before name same = record { one = tt; above = λ folder above. inl (subst (IsFolderOf folder) (sym same) above) }

module _ (change : NameChange) (before name : List ℕ) (len : ℕ) (within : len ≤ length before) (same : take len before ≡ take len name)
    (folders : (folder : List ℕ) → IsFolderOf folder before → IsFolderOf folder name → length folder < len) where
  -- a folder is above the name before, or long enough
  by_len : {P : Type 0} (folder : List ℕ) → IsFolderOf folder name → (len ≤ length folder → P) → IsFolderOf folder before ⊎ P
  by_len folder above long =
      ⊎_elim (λ short. inl (shared_folder before name folder len within same above short)) (λ upto. inr (long upto)) (cases_lt (length folder) len)

  may_above : (folder : List ℕ) → change.counts_as_written name ≡ true → IsShortestFolderOrNone change (files_with_only_name (Some folder)) name len (Some folder)
      → MayBeClashNear change before name (Some (record { path = folder; other = name }))
  may_above folder counts found = record {
    one = record {
      files = files_with_only_name (Some folder);
      is = clash_above change (files_with_only_name (Some folder)) folder name found.above found.after counts;
      fresh = inr (λ also. let short : length folder < len = folders folder also found.above in omega (arith, short, found.long), refl);
    };
    above = λ other above. by_len other above (λ long clash.
        same_other other folder name (longer_folder folder other name found.above above (found.shortest other above long (counts_is_after change (files_with_only_name (Some folder)) other clash.path_after))));
  }

  may_below : (other : List ℕ) → change.counts_as_written name ≡ true → IsShortestFolderOrNone change (files_with_only_name None) name len None → IsFirstNameBelowOrNone change.does_release (files_with_only_name (Some other)) name (Some other)
      → MayBeClashNear change before name (Some (record { path = name; other = other }))
  may_below other counts none found = record {
    one = record { files = files_with_only_name (Some other); is = clash_below change (files_with_only_name (Some other)) name other found.below found.present_files counts; fresh = inl counts };
    above = λ folder above. by_len folder above (λ long clash. absurd (none folder above long clash.path_after));
  }

  may_nothing : IsShortestFolderOrNone change (files_with_only_name None) name len None → MayBeClashNear change before name None
  may_nothing none = record { one = tt; above = λ folder above. by_len folder above (λ long clash. absurd (none folder above long clash.path_after)) }

  -- the same, as the code tells it
  pub above_may : (folder other : List ℕ) (found : Option (List ℕ)) → found ≡ Some folder → other ≡ name → change.counts_as_written name ≡ true → IsShortestFolderOrNone change (files_with_only_name found) name len found
      → MayBeClashNear change before name (Some (record { path = folder; other = other }))
  above_may folder other found is named counts at =
      subst (λ (l : List ℕ). MayBeClashNear change before name (Some (record { path = folder; other = l }))) (sym named)
      (may_above folder counts (subst (λ (o : Option (List ℕ)). IsShortestFolderOrNone change (files_with_only_name o) name len o) is at))

  pub below_may : (path other : List ℕ) (above found : Option (List ℕ)) → above ≡ None → found ≡ Some other → path ≡ name → change.counts_as_written name ≡ true
      → IsShortestFolderOrNone change (files_with_only_name above) name len above → IsFirstNameBelowOrNone change.does_release (files_with_only_name found) path found → MayBeClashNear change before name (Some (record { path = path; other = other }))
  below_may path other above found none is named counts over under =
      subst (λ (l : List ℕ). MayBeClashNear change before name (Some (record { path = l; other = other }))) (sym named)
      (may_below other counts (subst (λ (o : Option (List ℕ)). IsShortestFolderOrNone change (files_with_only_name o) name len o) none over)
      (subst (λ (o : Option (List ℕ)). IsFirstNameBelowOrNone change.does_release (files_with_only_name o) name o) is (subst (λ (l : List ℕ). IsFirstNameBelowOrNone change.does_release (files_with_only_name found) l found) named under)))

  pub nothing_may : (above : Option (List ℕ)) → above ≡ None → IsShortestFolderOrNone change (files_with_only_name above) name len above → MayBeClashNear change before name None
  nothing_may above none over = may_nothing (subst (λ (o : Option (List ℕ)). IsShortestFolderOrNone change (files_with_only_name o) name len o) none over)
