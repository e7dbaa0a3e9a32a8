-- A clash over some files before which no clash of written names comes is the first one over the files
-- that are under its two names.
use Rattle.std.proofs.Common.{◌≡◌, ◌⊎◌, ⊎_elim, inl, inr, ℕ, Bool, true, false, cond, List, [], length, Some, None, refl, sym, ap, subst, ◌∙◌, true≢false}
use Rattle.std.specs.Prelude.{not, ◌&&◌, ◌||◌, bytes_eq, is_some}
use Rattle.std.specs.Cmp.Lexicographic.{bytes_decides}
use Rattle.std.proofs.lemmas.Bool.{and_from, and_parts, cases_Bool, cases_order, or_cases, or_left, or_right}
use Rattle.base_core.specs.Files.{Files, IsFolderOf, no_names}
use Rattle.base_core.specs.ByteOrder.{precedes}
use Rattle.path_clashes.specs.Clash.{IsClash, IsFirstClash, NameChange, NamePair, is_present_after_change, is_pair_before_by_first_then_second_name}
use Rattle.path_clashes.proofs.Above.{name_behind, not_same}
use Rattle.path_clashes.proofs.Between.{folder_first, folder_trans, same_folder, shorter_folder}
use Rattle.path_clashes.proofs.NearClash.{counts_is_after}
use Rattle.path_clashes.proofs.PairOrder.{other_path, precedes_itself, same_path}

-- just these two names are present
abbrev pub files_of_pair : NamePair → Files
files_of_pair pair q = cond (bytes_eq q pair.path || bytes_eq q pair.other) (Some []) None

-- over some files it is a clash, and of the written names below a folder that is not written none
-- comes before its other name
pub record IsFirstBelowFolder (change : NameChange) (pair : NamePair) : Type 0 where
  pub files : Files
  pub is : IsClash change files pair
  pub fresh : (q : List ℕ) → change.counts_as_written q ≡ true → IsFolderOf pair.path q → change.counts_as_written pair.path ≡ false → precedes q pair.other ≡ false

module _ (change : NameChange) (pair : NamePair) (may : IsFirstBelowFolder change pair) (none : (other : NamePair) → IsClash change no_names other → is_pair_before_by_first_then_second_name other pair ≡ false) where
  there : (q : List ℕ) → (q ≡ pair.path) ⊎ (q ≡ pair.other) → is_some (files_of_pair pair q) ≡ true
  there q either = ap (λ b. is_some {T = List ℕ} (cond b (Some []) None)) (by either)
    where
      by : (q ≡ pair.path) ⊎ (q ≡ pair.other) → (bytes_eq q pair.path || bytes_eq q pair.other) ≡ true
      by (inl same) = or_left (bytes_eq q pair.path) (bytes_eq q pair.other) ((bytes_decides q pair.path).1 same)
      by (inr same) = or_right (bytes_eq q pair.path) (bytes_eq q pair.other) ((bytes_decides q pair.other).1 same)

  one_of_two : (q : List ℕ) → is_some (files_of_pair pair q) ≡ true → (q ≡ pair.path) ⊎ (q ≡ pair.other)
  one_of_two q some = by (bytes_eq q pair.path || bytes_eq q pair.other) refl some
    where
      by : (b : Bool) → (bytes_eq q pair.path || bytes_eq q pair.other) ≡ b → is_some {T = List ℕ} (cond b (Some []) None) ≡ true → (q ≡ pair.path) ⊎ (q ≡ pair.other)
      by true either some = ⊎_elim (λ same. inl ((bytes_decides q pair.path).0 same)) (λ same. inr ((bytes_decides q pair.other).0 same)) (or_cases (bytes_eq q pair.path) (bytes_eq q pair.other) either)
      by false neither some = absurd (cc)

  after_still : (q : List ℕ) → (q ≡ pair.path) ⊎ (q ≡ pair.other) → is_present_after_change change may.files q ≡ true → is_present_after_change change (files_of_pair pair) q ≡ true
  after_still q either after =
      ⊎_elim (λ present_files. or_left (is_some (files_of_pair pair q) && not (change.does_release q)) (change.counts_as_written q)
      (and_from (is_some (files_of_pair pair q)) (not (change.does_release q)) (there q either) (and_parts (is_some (may.files q)) (not (change.does_release q)) present_files).1))
      (λ counts. counts_is_after change (files_of_pair pair) q counts) (or_cases (is_some (may.files q) && not (change.does_release q)) (change.counts_as_written q) after)

  unwritten : (q : List ℕ) → is_present_after_change change (files_of_pair pair) q ≡ true → change.counts_as_written q ≡ false → (q ≡ pair.path) ⊎ (q ≡ pair.other)
  unwritten q after off =
      ⊎_elim (λ present_files. one_of_two q (and_parts (is_some (files_of_pair pair q)) (not (change.does_release q)) present_files).0) (λ counts. absurd (true≢false (sym counts ∙ off)))
      (or_cases (is_some (files_of_pair pair q) && not (change.does_release q)) (change.counts_as_written q) after)

  -- ---- none comes before it

  by_written : (a b : List ℕ) → IsFolderOf a b → change.counts_as_written a ≡ true → change.counts_as_written b ≡ true → is_pair_before_by_first_then_second_name (record { path = a; other = b }) pair ≡ false
  by_written a b above one other =
      none (record { path = a; other = b }) (record { folder = above; path_after = one; other_after = other; written = or_left (change.counts_as_written a) (change.counts_as_written b) one })

  not_earlier : (a b : List ℕ) → IsFolderOf a b → change.counts_as_written a ≡ true → change.counts_as_written b ≡ true → precedes a pair.path ≡ true → ⊥
  not_earlier a b above one other less = true≢false (sym (or_left (precedes a pair.path) (bytes_eq a pair.path && precedes b pair.other) less) ∙ by_written a b above one other)

  folder_unwritten : (a b : List ℕ) → IsFolderOf a b → (a ≡ pair.path) ⊎ (a ≡ pair.other) → change.counts_as_written a ≡ false → change.counts_as_written b ≡ true
      → is_pair_before_by_first_then_second_name (record { path = a; other = b }) pair ≡ false
  folder_unwritten a b above (inl same) off counts =
      subst (λ (l : List ℕ). is_pair_before_by_first_then_second_name (record { path = l; other = b }) pair ≡ false) (sym same)
      (same_path pair.path b pair.other (may.fresh b counts (subst (λ (l : List ℕ). IsFolderOf l b) same above) (ap change.counts_as_written (sym same) ∙ off)))
  folder_unwritten a b above (inr same) off counts =
      subst (λ (l : List ℕ). is_pair_before_by_first_then_second_name (record { path = l; other = b }) pair ≡ false) (sym same)
      (other_path pair.other pair.path b pair.other (name_behind pair.path pair.other may.is.folder) (not_same pair.path pair.other may.is.folder))

  -- the other name of a clash counts as written where its folder does not
  still_written : change.counts_as_written pair.path ≡ false → change.counts_as_written pair.other ≡ true
  still_written off =
      ⊎_elim (λ counts. absurd (true≢false (sym counts ∙ off))) (λ counts. counts) (or_cases (change.counts_as_written pair.path) (change.counts_as_written pair.other) may.is.written)

  folder_written : change.counts_as_written pair.other ≡ false → change.counts_as_written pair.path ≡ true
  folder_written off =
      ⊎_elim (λ counts. counts) (λ counts. absurd (true≢false (sym counts ∙ off))) (or_cases (change.counts_as_written pair.path) (change.counts_as_written pair.other) may.is.written)

  -- with a written folder above the other name, if that is not written
  above_other : (a : List ℕ) → IsFolderOf a pair.other → change.counts_as_written a ≡ true → change.counts_as_written pair.other ≡ false → is_pair_before_by_first_then_second_name (record { path = a; other = pair.other }) pair ≡ false
  above_other a above counts off =
      ⊎_elim (λ same. subst (λ (l : List ℕ). is_pair_before_by_first_then_second_name (record { path = l; other = pair.other }) pair ≡ false) (sym (same_folder a pair.path pair.other above may.is.folder same))
      (same_path pair.path pair.other pair.other (precedes_itself pair.other)))
      (λ apart. ⊎_elim
      (λ short. let over : IsFolderOf a pair.path = shorter_folder a pair.path pair.other above may.is.folder short in absurd (not_earlier a pair.path over counts (folder_written off) (folder_first a pair.path over)))
      (λ long. let under : IsFolderOf pair.path a = shorter_folder pair.path a pair.other may.is.folder above long in
      absurd (true≢false (sym (or_right (precedes pair.path pair.path) (bytes_eq pair.path pair.path && precedes a pair.other)
      (and_from (bytes_eq pair.path pair.path) (precedes a pair.other) ((bytes_decides pair.path pair.path).1 refl) (folder_first a pair.other above)))
      ∙ by_written pair.path a under (folder_written off) counts)))
      apart) (cases_order (length a) (length pair.path))

  name_unwritten : (a b : List ℕ) → IsFolderOf a b → (b ≡ pair.path) ⊎ (b ≡ pair.other) → change.counts_as_written a ≡ true → change.counts_as_written b ≡ false
      → is_pair_before_by_first_then_second_name (record { path = a; other = b }) pair ≡ false
  name_unwritten a b above (inl same) counts off =
      let over : IsFolderOf a pair.path = subst (IsFolderOf a) same above in
      absurd (not_earlier a pair.other (folder_trans a pair.path pair.other over may.is.folder) counts (still_written (ap change.counts_as_written (sym same) ∙ off)) (folder_first a pair.path over))
  name_unwritten a b above (inr same) counts off =
      subst (λ (l : List ℕ). is_pair_before_by_first_then_second_name (record { path = a; other = l }) pair ≡ false) (sym same)
      (above_other a (subst (IsFolderOf a) same above) counts (ap change.counts_as_written (sym same) ∙ off))

  not_before : (c : NamePair) → IsClash change (files_of_pair pair) c → is_pair_before_by_first_then_second_name c pair ≡ false
  not_before c clash =
      ⊎_elim (λ one. ⊎_elim (λ other. by_written c.path c.other clash.folder one other)
      (λ off. name_unwritten c.path c.other clash.folder (unwritten c.other clash.other_after off) one off) (cases_Bool (change.counts_as_written c.other)))
      (λ off. ⊎_elim (λ other. folder_unwritten c.path c.other clash.folder (unwritten c.path clash.path_after off) off other)
      (λ also. absurd (true≢false (sym clash.written ∙ ((λ i. off i || also i))))) (cases_Bool (change.counts_as_written c.other)))
      (cases_Bool (change.counts_as_written c.path))

  pub first_over_pair : IsFirstClash change (files_of_pair pair) pair
  first_over_pair = record {
    is_one = record {
      folder = may.is.folder;
      path_after = after_still pair.path (inl refl) may.is.path_after;
      other_after = after_still pair.other (inr refl) may.is.other_after;
      written = may.is.written;
    };
    first = λ other clash earlier. true≢false (sym earlier ∙ not_before other clash);
  }
