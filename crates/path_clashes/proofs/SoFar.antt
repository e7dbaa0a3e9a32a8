-- The first clash of the names so far.
use Rattle.std.proofs.Common.{◌≡◌, ◌⊎◌, ⊎_elim, ℕ, zero, suc, ◌+◌, ◌<◌, Bool, true, false, List, [], ◌∷◌, length, get_or, Option, Some, None, refl, sym, ap, subst, ◌∙◌, arith, true≢false}
use Rattle.std.specs.Prelude.{◌||◌, if◌then◌else◌, bytes_eq}
use Rattle.std.specs.List.{All, list_any}
use Rattle.std.specs.List.Sorted.{IsSorted}
use Rattle.std.proofs.lemmas.Bool.{cases_Bool, cases_eq, or_cases}
use Rattle.base_core.specs.Files.{Files, IsFolderOf}
use Rattle.base_core.specs.Name.{IsName}
use Rattle.base_core.specs.ByteOrder.{bytes_cmp, precedes}
use Rattle.path_clashes.specs.Clash.{NameChange, NamePair, is_pair_before_by_first_then_second_name}
use Rattle.path_clashes.specs.FirstClash.{IsFirstClashOrNone}
use Rattle.path_clashes.specs.NearName.{IsClashIfSome, IsClashNear, IsNoEarlierClash, IsNotBefore, earlier_pair, is_name_present}
use Rattle.path_clashes.proofs.Above.{nothing_above}
use Rattle.path_clashes.proofs.NearClash.{clash_above}
use Rattle.path_clashes.proofs.PairOrder.{pairs_chain, pairs_one_way, same_path}
use Rattle.path_clashes.proofs.Paths.{is_at, no_empty_name, place_of}

-- ---- the first of two pairs

pub not_before_first : (x : NamePair) (one other : Option NamePair) → IsNotBefore x one → IsNotBefore x (earlier_pair one other)
not_before_first x None other h = absurd h
not_before_first x (Some a) None h = h
not_before_first x (Some a) (Some b) h = by (is_pair_before_by_first_then_second_name b a) refl
  where
    by : (t : Bool) → is_pair_before_by_first_then_second_name b a ≡ t → IsNotBefore x (if t then Some b else Some a)
    by true less = pairs_chain x a b h (pairs_one_way b a less)
    by false more = h

pub not_before_second : (x : NamePair) (one other : Option NamePair) → IsNotBefore x other → IsNotBefore x (earlier_pair one other)
not_before_second x None other h = h
not_before_second x (Some a) None h = absurd h
not_before_second x (Some a) (Some b) h = by (is_pair_before_by_first_then_second_name b a) refl
  where
    by : (t : Bool) → is_pair_before_by_first_then_second_name b a ≡ t → IsNotBefore x (if t then Some b else Some a)
    by true less = h
    by false more = pairs_chain x b a h more

not_before_chain : (x y : NamePair) (found : Option NamePair) → is_pair_before_by_first_then_second_name x y ≡ false → IsNotBefore y found → IsNotBefore x found
not_before_chain x y None h g = absurd g
not_before_chain x y (Some a) h g = pairs_chain x y a h g

-- ---- the names in their order

-- the name in front of a place; in front of the first there is the empty text
abbrev pub name_before : List (List ℕ) → ℕ → List ℕ
name_before names i = get_or ([] ∷ names) i []

pub name_next : (names : List (List ℕ)) (i : ℕ) (name : List ℕ) → ((d : List ℕ) → get_or names i d ≡ name) → name ≡ name_before names (i + 1)
name_next names i name here = let e : suc i ≡ i + 1 = omega arith in sym (here []) ∙ ap (name_before names) e

module _ (change : NameChange) (files : Files) where
  one_of : (one other : Option NamePair) → IsClashIfSome change files one → IsClashIfSome change files other → IsClashIfSome change files (earlier_pair one other)
  one_of None other h g = g
  one_of (Some a) None h g = h
  one_of (Some a) (Some b) h g = by (is_pair_before_by_first_then_second_name b a)
    where
      by : (t : Bool) → IsClashIfSome change files (if t then Some b else Some a)
      by true = g
      by false = h

  -- of the clashes with the names so far none comes before the one that was found
  pub record IsNoneEarlier (names : List (List ℕ)) (i : ℕ) (found : Option NamePair) : Type 0 where
    pub above : (k : ℕ) (d : List ℕ) → k < i → (folder : List ℕ) → IsFolderOf folder (get_or names k d) → IsNoEarlierClash change files found (record { path = folder; other = get_or names k d })
    pub below : (k : ℕ) (d : List ℕ) → k < i → (other : List ℕ) → is_name_present change.does_release files other ≡ true → IsNoEarlierClash change files found (record { path = get_or names k d; other = other })

  pub record IsFirstSoFar (names : List (List ℕ)) (i : ℕ) (found : Option NamePair) : Type 0 where
    pub is_one : IsClashIfSome change files found
    pub none : IsNoneEarlier names i found

  pub none_of_none : (names : List (List ℕ)) → IsNoneEarlier names 0 None
  none_of_none names = record { above = λ k d l. absurd (omega arith); below = λ k d l. absurd (omega arith) }

  pub first_of_none : (names : List (List ℕ)) → IsFirstSoFar names 0 None
  first_of_none names = record { is_one = tt; none = none_of_none names }

  -- with a folder that is also above the name before
  passed_on : (found : Option NamePair) (folder before name : List ℕ) → IsFolderOf folder before → change.counts_as_written before ≡ true → precedes name before ≡ false
      → IsNoEarlierClash change files found (record { path = folder; other = before }) → IsNoEarlierClash change files found (record { path = folder; other = name })
  passed_on found folder before name above counts behind none clash =
      not_before_chain (record { path = folder; other = name }) (record { path = folder; other = before }) found (same_path folder name before behind)
      (none (clash_above change files folder before above clash.path_after counts))

  module _ (names : List (List ℕ)) (are_names : All IsName names) (up : IsSorted bytes_cmp names) (counted : (name : List ℕ) → list_any (bytes_eq name) names ≡ true → change.counts_as_written name ≡ true) where
    above_before : (i : ℕ) (name folder : List ℕ) (found : Option NamePair) → i < length names → ((d : List ℕ) → get_or names i d ≡ name) → IsNoneEarlier names i found → IsFolderOf folder (name_before names i)
        → IsNoEarlierClash change files found (record { path = folder; other = name })
    above_before zero name folder found within here so_far above = absurd (nothing_above folder above)
    above_before (suc i) name folder found within here so_far above =
        passed_on found folder (get_or names i []) name above (counted (get_or names i []) (is_at names i [] (omega arith))) behind (so_far.above i [] (omega arith) folder above)
      where
        behind : precedes name (get_or names i []) ≡ false
        behind =
            let e : suc i ≡ i + 1 = omega arith in
            ap (λ (l : List ℕ). precedes l (get_or names i [])) (sym (here []))
            ∙ (ap (λ n. precedes (get_or names n []) (get_or names i [])) e ∙ up i [] (omega arith) (omega arith))

    below_before : (i : ℕ) (name other : List ℕ) (found : Option NamePair) → i < length names → ((d : List ℕ) → get_or names i d ≡ name) → IsNoneEarlier names i found → name_before names i ≡ name → is_name_present change.does_release files other ≡ true
        → IsNoEarlierClash change files found (record { path = name; other = other })
    below_before zero name other found within here so_far same present_files =
        absurd (no_empty_name (subst IsName (here [] ∙ sym same) (are_names 0 [] within)))
    below_before (suc i) name other found within here so_far same present_files =
        subst (λ (l : List ℕ). IsNoEarlierClash change files found (record { path = l; other = other })) same (so_far.below i [] (omega arith) other present_files)

    pub none_of_more : (i : ℕ) (name : List ℕ) (best found : Option NamePair) → i < length names → ((d : List ℕ) → get_or names i d ≡ name) → IsNoneEarlier names i best
        → ((folder : List ℕ) → IsFolderOf folder name → IsFolderOf folder (name_before names i) ⊎ IsNoEarlierClash change files found (record { path = folder; other = name }))
        → ((other : List ℕ) → is_name_present change.does_release files other ≡ true → (name_before names i ≡ name) ⊎ IsNoEarlierClash change files found (record { path = name; other = other }))
        → IsNoneEarlier names (i + 1) (earlier_pair best found)
    none_of_more i name best found within here so_far near_above near_below = record { above = above; below = below }
      where
        above_here : (folder : List ℕ) → IsFolderOf folder name → IsNoEarlierClash change files (earlier_pair best found) (record { path = folder; other = name })
        above_here folder over clash =
            ⊎_elim (λ before. not_before_first (record { path = folder; other = name }) best found (above_before i name folder best within here so_far before clash))
            (λ none. not_before_second (record { path = folder; other = name }) best found (none clash)) (near_above folder over)

        below_here : (other : List ℕ) → is_name_present change.does_release files other ≡ true → IsNoEarlierClash change files (earlier_pair best found) (record { path = name; other = other })
        below_here other present_files clash =
            ⊎_elim (λ same. not_before_first (record { path = name; other = other }) best found (below_before i name other best within here so_far same present_files clash))
            (λ none. not_before_second (record { path = name; other = other }) best found (none clash)) (near_below other present_files)

        at_here : (k : ℕ) (d : List ℕ) → k ≡ i → name ≡ get_or names k d
        at_here k d is = sym (here d) ∙ ap (λ n. get_or names n d) (sym is)

        above : (k : ℕ) (d : List ℕ) → k < i + 1 → (folder : List ℕ) → IsFolderOf folder (get_or names k d) → IsNoEarlierClash change files (earlier_pair best found) (record { path = folder; other = get_or names k d })
        above k d upto folder over =
            ⊎_elim (λ is. subst (λ (l : List ℕ). IsNoEarlierClash change files (earlier_pair best found) (record { path = folder; other = l })) (at_here k d is) (above_here folder (subst (IsFolderOf folder) (sym (at_here k d is)) over)))
            (λ apart clash. not_before_first (record { path = folder; other = get_or names k d }) best found (so_far.above k d (omega (arith, upto, apart)) folder over clash)) (cases_eq k i)

        below : (k : ℕ) (d : List ℕ) → k < i + 1 → (other : List ℕ) → is_name_present change.does_release files other ≡ true → IsNoEarlierClash change files (earlier_pair best found) (record { path = get_or names k d; other = other })
        below k d upto other present_files =
            ⊎_elim (λ is. subst (λ (l : List ℕ). IsNoEarlierClash change files (earlier_pair best found) (record { path = l; other = other })) (at_here k d is) (below_here other present_files))
            (λ apart clash. not_before_first (record { path = get_or names k d; other = other }) best found (so_far.below k d (omega (arith, upto, apart)) other present_files clash)) (cases_eq k i)

    pub first_of_more : (i : ℕ) (name : List ℕ) (best found : Option NamePair) → i < length names → ((d : List ℕ) → get_or names i d ≡ name)
        → IsFirstSoFar names i best → IsClashNear change files (name_before names i) name found → IsFirstSoFar names (i + 1) (earlier_pair best found)
    first_of_more i name best found within here so_far near = record {
      is_one = one_of best found so_far.is_one near.is_one;
      none = none_of_more i name best found within here so_far.none near.above near.below;
    }

    -- the same, as the code tells it
    pub more_told : (i : ℕ) (before name : List ℕ) (best found new : Option NamePair) → i < length names → ((d : List ℕ) → get_or names i d ≡ name) → before ≡ name_before names i → new ≡ earlier_pair best found
        → IsFirstSoFar names i best → IsClashNear change files before name found → IsFirstSoFar names (i + 1) new
    more_told i before name best found new within here last is so_far near =
        subst (IsFirstSoFar names (i + 1)) (sym is) (first_of_more i name best found within here so_far (subst (λ (l : List ℕ). IsClashNear change files l name found) last near))

  -- ---- of all names

  module _ (names : List (List ℕ)) (counting : (name : List ℕ) → change.counts_as_written name ≡ list_any (bytes_eq name) names) where
    pub in_all : (found : Option NamePair) → IsNoneEarlier names (length names) found → (path other : List ℕ) → IsNoEarlierClash change files found (record { path = path; other = other })
    in_all found so_far path other clash =
        ⊎_elim (λ counts. let at = place_of names other (sym (counting other) ∙ counts) in
        subst (λ (l : List ℕ). IsNoEarlierClash change files found (record { path = path; other = l })) at.2 (so_far.above at.0 other at.1 path (subst (IsFolderOf path) (sym at.2) clash.folder)) clash)
        (λ off. ⊎_elim (λ counts. let at = place_of names path (sym (counting path) ∙ counts) in
        subst (λ (l : List ℕ). IsNoEarlierClash change files found (record { path = l; other = other })) at.2 (so_far.below at.0 path at.1 other (present_files off clash.other_after)) clash)
        (λ counts. absurd (true≢false (sym counts ∙ off))) (or_cases (change.counts_as_written path) (change.counts_as_written other) clash.written))
        (cases_Bool (change.counts_as_written other))
      where
        present_files : change.counts_as_written other ≡ false → (is_name_present change.does_release files other || change.counts_as_written other) ≡ true → is_name_present change.does_release files other ≡ true
        present_files off after = ⊎_elim (λ s. s) (λ counts. absurd (true≢false (sym counts ∙ off))) (or_cases (is_name_present change.does_release files other) (change.counts_as_written other) after)

    pub first_of_all : (found : Option NamePair) → IsFirstSoFar names (length names) found → IsFirstClashOrNone change files found
    first_of_all None so_far = λ pair clash. in_all None so_far.none pair.path pair.other clash
    first_of_all (Some pair) so_far = record {
      is_one = so_far.is_one;
      first = λ other clash earlier. true≢false (sym earlier ∙ in_all (Some pair) so_far.none other.path other.other clash);
    }

    pub all_told : (i : ℕ) (found : Option NamePair) → i ≡ length names → IsFirstSoFar names i found → IsFirstClashOrNone change files found
    all_told i found is so_far = first_of_all found (subst (λ n. IsFirstSoFar names n found) is so_far)
