-- Files of which one name, if any, is present.
use Rattle.std.proofs.Common.{◌≡◌, ◌⊎◌, inl, inr, ℕ, ◌+◌, ◌<◌, ◌≤◌, Bool, true, false, cond, List, [], length, get_or, take, map, Option, Some, None, refl, sym, ap, subst, ◌∙◌, arith}
use Rattle.std.specs.Prelude.{not, ◌&&◌, ◌||◌, bytes_eq, is_some}
use Rattle.std.specs.List.{All, find}
use Rattle.std.specs.Cmp.Lexicographic.{bytes_decides}
use Rattle.std.proofs.lemmas.Bool.{and_from, and_parts, false_from_ne_true, or_left, or_right}
use Rattle.std.proofs.lemmas.List.{length-take-le}
use Rattle.adb_fields.specs.JoinedPath.{joined_path}
use Rattle.adb_fields.specs.declared.file_path.FilePath.{FilePath}
use Rattle.base_core.specs.Files.{IsFolderOf}
use Rattle.base_core.specs.Listed.{AreSortedAndEachBelowFolder}
use Rattle.base_core.specs.Name.{IsName, is_name}
use Rattle.base_core.specs.ByteOrder.{precedes}
use Rattle.path_clashes.specs.Clash.{NameChange, is_present_after_change}
use Rattle.path_clashes.specs.NearName.{IsShortestFolderOrNone, IsFirstNameBelowOrNone, files_with_only_name, name_if_holds}
use Rattle.path_clashes.specs.WrittenPaths.{name_change_of_paths}
use Rattle.path_clashes.proofs.Above.{IsNoneUpto, found_told, none_past_folder}
use Rattle.path_clashes.proofs.Below.{IsFirstPassing, find-Some}
use Rattle.path_clashes.proofs.NoName.{not_a_path}
use Rattle.path_clashes.proofs.PairOrder.{precedes_itself}

pub present : (name : List ℕ) → is_some (files_with_only_name (Some name) name) ≡ true
present name = ap (λ b. is_some {T = List ℕ} (cond b (Some []) None)) ((bytes_decides name name).1 refl)

pub just_present : (name q : List ℕ) → is_some (files_with_only_name (Some name) q) ≡ true → q ≡ name
just_present name q some = by (bytes_eq q name) refl some
  where
    by : (b : Bool) → bytes_eq q name ≡ b → is_some {T = List ℕ} (cond b (Some []) None) ≡ true → q ≡ name
    by true same some = (bytes_decides q name).0 same
    by false differs some = absurd (cc)

absent_there : (name q : List ℕ) → (q ≡ name → ⊥) → is_some (files_with_only_name (Some name) q) ≡ false
absent_there name q differ = false_from_ne_true (is_some (files_with_only_name (Some name) q)) (λ some. differ (just_present name q some))

-- ---- a folder

module _ (change : NameChange) where
  -- what is after the change where no file stands is written
  pub written_after : (q : List ℕ) → is_present_after_change change (files_with_only_name None) q ≡ true → change.counts_as_written q ≡ true
  written_after q after = after

  pub after_alone : (name folder : List ℕ) → name ≡ folder → (change.counts_as_written folder ≡ true) ⊎ (change.does_release folder ≡ false)
      → Some name ≡ name_if_holds (is_present_after_change change (files_with_only_name (Some name)) folder) folder
  after_alone name folder is why =
      ap (λ (l : List ℕ). Some l) is ∙ sym (ap (λ b. name_if_holds b folder) (subst (λ (l : List ℕ). is_present_after_change change (files_with_only_name (Some l)) folder ≡ true) (sym is) (by why)))
    where
      by : (change.counts_as_written folder ≡ true) ⊎ (change.does_release folder ≡ false) → is_present_after_change change (files_with_only_name (Some folder)) folder ≡ true
      by (inl counts) = or_right (is_some (files_with_only_name (Some folder) folder) && not (change.does_release folder)) (change.counts_as_written folder) counts
      by (inr stays) =
          or_left (is_some (files_with_only_name (Some folder) folder) && not (change.does_release folder)) (change.counts_as_written folder)
          (and_from (is_some (files_with_only_name (Some folder) folder)) (not (change.does_release folder)) (present folder) (ap not stays))

  pub none_after : (folder : List ℕ) → change.counts_as_written folder ≡ false → None ≡ name_if_holds (is_present_after_change change (files_with_only_name None) folder) folder
  none_after folder off = sym (ap (λ b. name_if_holds b folder) off)

  -- ---- the walk over a name's slashes

  none_with : (name folder : List ℕ) (len i : ℕ) → length folder ≡ i → IsNoneUpto change (files_with_only_name None) name len i → IsNoneUpto change (files_with_only_name (Some folder)) name len i
  none_with name folder len i long none other above upto short after =
      none other above upto short (sym (ap (λ b. (b && not (change.does_release other)) || change.counts_as_written other) (absent_there folder other apart)) ∙ after)
    where
      apart : other ≡ folder → ⊥
      apart same = omega (arith, ap length same, long, short)

  pub found_alone : (name : List ℕ) (len i : ℕ) (found : Option (List ℕ)) (folder : List ℕ) → len ≤ i → i < length name → get_or name i 0 ≡ 47 → found ≡ Some folder
      → IsNoneUpto change (files_with_only_name None) name len i → found ≡ name_if_holds (is_present_after_change change (files_with_only_name found) (take i name)) (take i name)
      → IsShortestFolderOrNone change (files_with_only_name (Some folder)) name len (Some folder)
  found_alone name len i found folder long within slash is none told =
      found_told change (files_with_only_name (Some folder)) name len i found folder long within slash is (none_with name folder len i longer none) at_folder
    where
      at_folder : found ≡ name_if_holds (is_present_after_change change (files_with_only_name (Some folder)) (take i name)) (take i name)
      at_folder = subst (λ (o : Option (List ℕ)). found ≡ name_if_holds (is_present_after_change change (files_with_only_name o) (take i name)) (take i name)) is told

      named : (b : Bool) → Some folder ≡ name_if_holds b (take i name) → folder ≡ take i name
      named true e = cc
      named false e = absurd (cc)

      longer : length folder ≡ i
      longer = ap length (named (is_present_after_change change (files_with_only_name (Some folder)) (take i name)) (sym is ∙ at_folder)) ∙ length-take-le i name (omega arith)

  -- past a folder that is not there after the change
  pub none_past_alone : (name : List ℕ) (len i : ℕ) (found : Option (List ℕ)) → found ≡ None → found ≡ name_if_holds (is_present_after_change change (files_with_only_name found) (take i name)) (take i name)
      → IsNoneUpto change (files_with_only_name None) name len i → IsNoneUpto change (files_with_only_name None) name len (i + 1)
  none_past_alone name len i found is told =
      none_past_folder change (files_with_only_name None) name len i found is
      (subst (λ (o : Option (List ℕ)). found ≡ name_if_holds (is_present_after_change change (files_with_only_name o) (take i name)) (take i name)) is told)

-- what is no name is not written
pub no_name_alone : (paths : List FilePath) (does_release : List ℕ → Bool) (name : List ℕ) → All IsName (map joined_path paths) → is_name name ≡ false
    → None ≡ name_if_holds (is_present_after_change (name_change_of_paths paths does_release) (files_with_only_name None) name) name
no_name_alone paths does_release name names off = none_after (name_change_of_paths paths does_release) name (not_a_path paths name names off)

-- ---- a name below

pub listed_alone : (does_release : List ℕ → Bool) (folder : List ℕ) (names : List (List ℕ)) → AreSortedAndEachBelowFolder folder names → (found : Option (List ℕ)) → found ≡ find (λ name. not (does_release name)) names
    → IsFirstNameBelowOrNone does_release (files_with_only_name found) folder found
listed_alone does_release folder names below None is = λ other over present_files. absurd (cc)
listed_alone does_release folder names below (Some name) is = record {
  below = subst (IsFolderOf folder) f.here (below.each f.at name f.within).below;
  present_files = and_from (is_some (files_with_only_name (Some name) name)) (not (does_release name)) (present name) f.passes;
  first = λ other over present_files.
      ap (λ (l : List ℕ). precedes l name) (just_present name other (and_parts (is_some (files_with_only_name (Some name) other)) (not (does_release other)) present_files).0) ∙ precedes_itself name;
}
  where
    f : IsFirstPassing (λ n. not (does_release n)) names name
    f = find-Some (λ name. not (does_release name)) names name (sym is)
