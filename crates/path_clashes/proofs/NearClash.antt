-- The first clash of one name with those above and below it.
use Rattle.std.proofs.Common.{◌≡◌, ◌⊎◌, ⊎_elim, inl, inr, ℕ, ◌≤◌, true, List, length, take, Option, Some, None, sym, subst}
use Rattle.std.specs.Prelude.{not, ◌&&◌, is_some}
use Rattle.std.proofs.lemmas.Bool.{cases_lt, or_left, or_right}
use Rattle.base_core.specs.Files.{Files, IsFolderOf}
use Rattle.path_clashes.specs.Clash.{IsClash, NameChange, is_present_after_change}
use Rattle.path_clashes.specs.NearName.{IsClashNear, IsShortestFolderOrNone, IsFirstNameBelowOrNone, is_name_present}
use Rattle.path_clashes.proofs.Above.{longer_folder, name_behind, not_same, shared_folder}
use Rattle.path_clashes.proofs.PairOrder.{other_path, same_other, same_path}

-- near a name that is the same as the one before it, nothing has to be found
pub same_told : (change : NameChange) (files : Files) (before name : List ℕ) → before ≡ name → IsClashNear change files before name None
same_told change files before name same = record { is_one = tt; above = λ folder above. inl (subst (IsFolderOf folder) (sym same) above); below = λ other present_files. inl same }

module _ (change : NameChange) (files : Files) where
  pub counts_is_after : (name : List ℕ) → change.counts_as_written name ≡ true → is_present_after_change change files name ≡ true
  counts_is_after name counts = or_right (is_some (files name) && not (change.does_release name)) (change.counts_as_written name) counts

  standing_is_after : (name : List ℕ) → is_name_present change.does_release files name ≡ true → is_present_after_change change files name ≡ true
  standing_is_after name present_files = or_left (is_name_present change.does_release files name) (change.counts_as_written name) present_files

  pub clash_above : (folder name : List ℕ) → IsFolderOf folder name → is_present_after_change change files folder ≡ true → change.counts_as_written name ≡ true → IsClash change files (record { path = folder; other = name })
  clash_above folder name above after counts = record {
    folder = above;
    path_after = after;
    other_after = counts_is_after name counts;
    written = or_right (change.counts_as_written folder) (change.counts_as_written name) counts;
  }

  pub clash_below : (name other : List ℕ) → IsFolderOf name other → is_name_present change.does_release files other ≡ true → change.counts_as_written name ≡ true → IsClash change files (record { path = name; other = other })
  clash_below name other below present_files counts = record {
    folder = below;
    path_after = counts_is_after name counts;
    other_after = standing_is_after other present_files;
    written = or_left (change.counts_as_written name) (change.counts_as_written other) counts;
  }

  module _ (before name : List ℕ) (len : ℕ) (within : len ≤ length before) (same : take len before ≡ take len name) where
    -- a folder is above the name before, or long enough
    by_len : {P : Type 0} (folder : List ℕ) → IsFolderOf folder name → (len ≤ length folder → P) → IsFolderOf folder before ⊎ P
    by_len folder above long =
        ⊎_elim (λ short. inl (shared_folder before name folder len within same above short)) (λ upto. inr (long upto)) (cases_lt (length folder) len)

    pub near_above : (folder : List ℕ) → change.counts_as_written name ≡ true → IsShortestFolderOrNone change files name len (Some folder) → IsClashNear change files before name (Some (record { path = folder; other = name }))
    near_above folder counts found = record {
      is_one = clash_above folder name found.above found.after counts;
      above = λ other above. by_len other above (λ long clash. same_other other folder name (longer_folder folder other name found.above above (found.shortest other above long clash.path_after)));
      below = λ other present_files. inr (λ clash. other_path name folder other name (name_behind folder name found.above) (not_same folder name found.above));
    }

    pub near_below : (other : List ℕ) → change.counts_as_written name ≡ true → IsShortestFolderOrNone change files name len None → IsFirstNameBelowOrNone change.does_release files name (Some other) → IsClashNear change files before name (Some (record { path = name; other = other }))
    near_below other counts none found = record {
      is_one = clash_below name other found.below found.present_files counts;
      above = λ folder above. by_len folder above (λ long clash. absurd (none folder above long clash.path_after));
      below = λ name' present_files. inr (λ clash. same_path name name' other (found.first name' clash.folder present_files));
    }

    pub near_nothing : IsShortestFolderOrNone change files name len None → IsFirstNameBelowOrNone change.does_release files name None → IsClashNear change files before name None
    near_nothing none nothing = record {
      is_one = tt;
      above = λ folder above. by_len folder above (λ long clash. absurd (none folder above long clash.path_after));
      below = λ other present_files. inr (λ clash. nothing other clash.folder present_files);
    }

    -- the same, as the code tells it
    pub above_told : (folder other : List ℕ) (found : Option (List ℕ)) → found ≡ Some folder → other ≡ name → change.counts_as_written name ≡ true → IsShortestFolderOrNone change files name len found
        → IsClashNear change files before name (Some (record { path = folder; other = other }))
    above_told folder other found is named counts at =
        subst (λ (l : List ℕ). IsClashNear change files before name (Some (record { path = folder; other = l }))) (sym named) (near_above folder counts (subst (IsShortestFolderOrNone change files name len) is at))

    pub below_told : (path other : List ℕ) (above found : Option (List ℕ)) → above ≡ None → found ≡ Some other → path ≡ name → change.counts_as_written name ≡ true
        → IsShortestFolderOrNone change files name len above → IsFirstNameBelowOrNone change.does_release files path found → IsClashNear change files before name (Some (record { path = path; other = other }))
    below_told path other above found none is named counts over under =
        subst (λ (l : List ℕ). IsClashNear change files before name (Some (record { path = l; other = other }))) (sym named)
        (near_below other counts (subst (IsShortestFolderOrNone change files name len) none over) (subst (IsFirstNameBelowOrNone change.does_release files name) is (subst (λ (l : List ℕ). IsFirstNameBelowOrNone change.does_release files l found) named under)))

    pub nothing_told : (path : List ℕ) (above found : Option (List ℕ)) → above ≡ None → found ≡ None → path ≡ name
        → IsShortestFolderOrNone change files name len above → IsFirstNameBelowOrNone change.does_release files path found → IsClashNear change files before name None
    nothing_told path above found none is named over under =
        near_nothing (subst (IsShortestFolderOrNone change files name len) none over) (subst (IsFirstNameBelowOrNone change.does_release files name) is (subst (λ (l : List ℕ). IsFirstNameBelowOrNone change.does_release files l found) named under))
