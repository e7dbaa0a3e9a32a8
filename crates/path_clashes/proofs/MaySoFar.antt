-- What may be the first clash of the names so far, over a tree that is not observable.
use Rattle.std.proofs.Common.{◌≡◌, ◌⊎◌, ⊎_elim, inl, inr, ℕ, zero, suc, ◌+◌, ◌<◌, ◌≤◌, Bool, true, false, List, [], length, get_or, Option, Some, None, refl, sym, ap, subst, ◌∙◌, arith, true≢false}
use Rattle.std.specs.Prelude.{IfSome, if◌then◌else◌, bytes_eq}
use Rattle.std.specs.List.{All, list_any}
use Rattle.std.specs.List.Sorted.{IsSorted}
use Rattle.std.proofs.lemmas.Bool.{cases_lt}
use Rattle.std.proofs.lemmas.Cmp.{nat_list_cmp_total}
use Rattle.std.proofs.lemmas.List.{get_or_default}
use Rattle.std.proofs.lemmas.List.Sorted.{ranks_by, sorted_far}
use Rattle.base_core.specs.Files.{IsFolderOf, no_names}
use Rattle.base_core.specs.Name.{IsName}
use Rattle.base_core.specs.ByteOrder.{bytes_cmp, precedes}
use Rattle.path_clashes.specs.Clash.{NameChange, NamePair, is_pair_before_by_first_then_second_name}
use Rattle.path_clashes.specs.FirstClash.{IsFirstClashOverSomeFiles}
use Rattle.path_clashes.specs.NearName.{IsNewClashOverSomeFiles, MayBeClashNear, earlier_pair}
use Rattle.path_clashes.proofs.Between.{between_names}
use Rattle.path_clashes.proofs.Paths.{place_of}
use Rattle.path_clashes.proofs.SoFar.{IsNoneEarlier, in_all, name_before, none_of_more, none_of_none}
use Rattle.path_clashes.proofs.SomeFiles.{IsFirstBelowFolder, files_of_pair, first_over_pair}

one_of : (P : NamePair → Type 0) (one other : Option NamePair) → IfSome one P → IfSome other P → IfSome (earlier_pair one other) P
one_of P None other h g = g
one_of P (Some a) None h g = h
one_of P (Some a) (Some b) h g = by (is_pair_before_by_first_then_second_name b a)
  where
    by : (t : Bool) → IfSome (if t then Some b else Some a) P
    by true = g
    by false = h

module _ (change : NameChange) (names : List (List ℕ)) where
  pub record MayBeFirstSoFar (i : ℕ) (found : Option NamePair) : Type 0 where
    pub one : IfSome found (IsFirstBelowFolder change)
    pub none : IsNoneEarlier change no_names names i found

  pub may_be_none : MayBeFirstSoFar 0 None
  may_be_none = record { one = tt; none = none_of_none change no_names names }

  module _ (are_names : All IsName names) (up : IsSorted bytes_cmp names) (counting : (name : List ℕ) → change.counts_as_written name ≡ list_any (bytes_eq name) names) where
    in_order : (j k : ℕ) → (j < k) ⊎ (j ≡ k) → k < length names → precedes (get_or names k []) (get_or names j []) ≡ false
    in_order j k upto within = sorted_far precedes (ranks_by nat_list_cmp_total (λ (a : List ℕ). a)) names up j k [] (⊎_elim (λ less. omega arith) (λ same. omega arith) upto) within

    -- a name below a folder that is not above the name before this one does not come before it
    not_before : (i : ℕ) (name folder q : List ℕ) → i < length names → ((d : List ℕ) → get_or names i d ≡ name) → (IsFolderOf folder (name_before names i) → ⊥) → IsFolderOf folder name
        → (k : ℕ) → k < length names → get_or names k [] ≡ q → IsFolderOf folder q → precedes q name ≡ false
    not_before zero name folder q within here apart above k inside at below =
        (λ i. precedes (sym at i) (sym (here []) i)) ∙ in_order 0 k (by k) inside
      where
        by : (k : ℕ) → (0 < k) ⊎ (0 ≡ k)
        by zero = inr refl
        by (suc k) = inl (omega arith)
    not_before (suc i) name folder q within here apart above k inside at below =
        ⊎_elim (λ less. absurd (apart (between_names folder q name (get_or names i []) below above (after_q less) behind)))
        (λ upto. (λ j. precedes (sym at j) (sym (here []) j)) ∙ in_order (suc i) k (more k upto) inside) (cases_lt k (suc i))
      where
        behind : precedes name (get_or names i []) ≡ false
        behind = ap (λ (l : List ℕ). precedes l (get_or names i [])) (sym (here [])) ∙ in_order i (suc i) (inl (omega arith)) within

        after_q : k < suc i → precedes (get_or names i []) q ≡ false
        after_q less = ap (precedes (get_or names i [])) (sym at) ∙ in_order k i (upto_i (cases_lt k i) less) (omega arith)
          where
            upto_i : (k < i) ⊎ (i ≤ k) → k < suc i → (k < i) ⊎ (k ≡ i)
            upto_i (inl less) short = inl less
            upto_i (inr same) short = inr (omega arith)

        more : (k : ℕ) → suc i ≤ k → (suc i < k) ⊎ (suc i ≡ k)
        more k upto = ⊎_elim (λ less. inl less) (λ same. inr (omega arith)) (cases_lt (suc i) k)

    below_folder : (i : ℕ) (name : List ℕ) (pair : NamePair) → i < length names → ((d : List ℕ) → get_or names i d ≡ name) → IsNewClashOverSomeFiles change (name_before names i) name pair → IsFirstBelowFolder change pair
    below_folder i name pair within here f = record {
      files = f.files;
      is = f.is;
      fresh = λ q counts below off. ⊎_elim (λ written. absurd (true≢false (sym written ∙ off)))
          (λ (apart, named). let at = place_of names q (sym (counting q) ∙ counts) in
          ap (precedes q) named ∙ not_before i name pair.path q within here apart (subst (IsFolderOf pair.path) named f.is.folder) at.0 at.1 (get_or_default names at.0 [] q at.1 ∙ at.2) below)
          f.fresh;
    }

    first_below : (i : ℕ) (name : List ℕ) (found : Option NamePair) → i < length names → ((d : List ℕ) → get_or names i d ≡ name) → IfSome found (IsNewClashOverSomeFiles change (name_before names i) name) → IfSome found (IsFirstBelowFolder change)
    first_below i name None within here f = tt
    first_below i name (Some pair) within here f = below_folder i name pair within here f

    pub more_may : (i : ℕ) (before name : List ℕ) (best found new : Option NamePair) → i < length names → ((d : List ℕ) → get_or names i d ≡ name) → before ≡ name_before names i → new ≡ earlier_pair best found
        → MayBeFirstSoFar i best → MayBeClashNear change before name found → MayBeFirstSoFar (i + 1) new
    more_may i before name best found new within here last is so_far near =
        subst (MayBeFirstSoFar (i + 1)) (sym is) (record {
          one = one_of (IsFirstBelowFolder change) best found so_far.one (first_below i name found within here at.one);
          none = none_of_more change no_names names are_names up (λ name any. counting name ∙ any) i name best found within here so_far.none at.above (λ other present_files. absurd (cc));
        })
      where
        at : MayBeClashNear change (name_before names i) name found
        at = subst (λ (l : List ℕ). MayBeClashNear change l name found) last near

    pub all_may : (i : ℕ) (found : Option NamePair) → i ≡ length names → MayBeFirstSoFar i found → IsFirstClashOverSomeFiles change found
    all_may i found is so_far = by found (subst (λ n. MayBeFirstSoFar n found) is so_far)
      where
        by : (found : Option NamePair) → MayBeFirstSoFar (length names) found → IsFirstClashOverSomeFiles change found
        by None all = (no_names, λ pair clash. in_all change no_names names counting None all.none pair.path pair.other clash)
        by (Some pair) all = (files_of_pair pair, first_over_pair change pair all.one (λ other clash. in_all change no_names names counting (Some pair) all.none other.path other.other clash))
