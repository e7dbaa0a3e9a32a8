-- Over files under finitely many names a change has a first clash, or none.
use Rattle.std.proofs.Common.{◌≡◌, ◌⊎◌, inl, inr, ◌∙◌, ℕ, Bool, true, false, List, [], ◌∷◌, ◌++◌, map, eqb, Option, Some, None, refl, sym, ap, subst, true≢false}
use Rattle.std.specs.Prelude.{not, ◌&&◌, ◌||◌, is_some, option_and_then}
use Rattle.std.specs.Str.{bytes_eq}
use Rattle.std.specs.List.{list_any}
use Rattle.std.proofs.lemmas.Bool.{and_parts, eq-eqb, eqb-true, or_cases}
use Rattle.base_core.specs.Files.{Files, IsFolderOf, HasOnlyNamesAmong}
use Rattle.base_core.proofs.Rising.{IsIn}
use Rattle.package_changes.specs.own_core.Fate.{apk_new_name}
use Rattle.package_changes.specs.own_core.FileChange.{FileChange}
use Rattle.package_changes.specs.own_core.FilesAfter.{database_name, listing_written_as_apk_new_beside, path_of_apk_new_name, world_name}
use Rattle.package_changes.specs.own_core.NamesAfter.{added_paths, counts_as_written, name_change}
use Rattle.package_changes.proofs.own_core.InOrder.{in_left, in_map, in_right}
use Rattle.package_changes.proofs.own_core.OwnedFiles.{aside_found, beside_is, in_coming_paths}
use Rattle.db_core.specs.Members.{Listing}
use Rattle.package_changes.specs.path_clashes.Clash.{IsClash, NameChange, NamePair, is_present_after_change, is_pair_before_by_first_then_second_name}
use Rattle.package_changes.specs.path_clashes.FirstClash.{IsFirstClashOrNone}
use Rattle.package_changes.specs.path_clashes.NearName.{IsClashIfSome, IsNoEarlierClash}
use Rattle.package_changes.proofs.path_clashes.PairOrder.{pairs_chain, pairs_one_way}
use Rattle.change_outcome.proofs.FreeNames.{name_of_any}

true_false : true ≡ false → ⊥
true_false e = cc

-- ---- whether a name is a folder of another

is_folder : (p q : List ℕ) → IsFolderOf p q ⊎ (IsFolderOf p q → ⊥)
is_folder [] [] = inr (λ (rest, e). cc (e))
is_folder [] (y ∷ q) = by_slash (eqb y 47) refl
  where
    by_slash : (b : Bool) → eqb y 47 ≡ b → IsFolderOf [] (y ∷ q) ⊎ (IsFolderOf [] (y ∷ q) → ⊥)
    by_slash true e = inl (q, ap (λ (x : ℕ). x ∷ q) (eqb-true y 47 e))
    by_slash false e = inr (λ (rest, is). (let same : y ≡ 47 = cc in true_false (sym (ap (λ x. eqb x 47) same) ∙ e)))
is_folder (x ∷ p) [] = inr (λ (rest, e). cc (e))
is_folder (x ∷ p) (y ∷ q) = by_first (eqb y x) refl (is_folder p q)
  where
    same_eq : (n : ℕ) → eqb n n ≡ true
    same_eq n = eq-eqb n n refl

    by_first : (b : Bool) → eqb y x ≡ b → IsFolderOf p q ⊎ (IsFolderOf p q → ⊥) → IsFolderOf (x ∷ p) (y ∷ q) ⊎ (IsFolderOf (x ∷ p) (y ∷ q) → ⊥)
    by_first true e (inl (rest, is)) = inl (rest, ap (λ (n : ℕ). n ∷ q) (eqb-true y x e) ∙ ap (λ (ys : List ℕ). x ∷ ys) is)
    by_first true e (inr never) = inr (λ (rest, is). never (rest, cc (is)))
    by_first false e d = inr (λ (rest, is). (let same : y ≡ x = cc in true_false (sym (same_eq x) ∙ (ap (λ n. eqb n x) (sym same) ∙ e))))

-- ---- whether a pair is a clash

is_clash : (change : NameChange) (files : Files) (pair : NamePair) → IsClash change files pair ⊎ (IsClash change files pair → ⊥)
is_clash change files pair = by_folder (is_folder pair.path pair.other) (is_present_after_change change files pair.path) refl (is_present_after_change change files pair.other) refl (change.counts_as_written pair.path || change.counts_as_written pair.other) refl
  where
    by_folder : IsFolderOf pair.path pair.other ⊎ (IsFolderOf pair.path pair.other → ⊥) → (a : Bool) → is_present_after_change change files pair.path ≡ a
        → (b : Bool) → is_present_after_change change files pair.other ≡ b → (c : Bool) → (change.counts_as_written pair.path || change.counts_as_written pair.other) ≡ c
        → IsClash change files pair ⊎ (IsClash change files pair → ⊥)
    by_folder (inr never) a x b y c z = inr (λ clash. never clash.folder)
    by_folder (inl folder) false x b y c z = inr (λ clash. true_false (sym clash.path_after ∙ x))
    by_folder (inl folder) true x false y c z = inr (λ clash. true_false (sym clash.other_after ∙ y))
    by_folder (inl folder) true x true y false z = inr (λ clash. true_false (sym clash.written ∙ z))
    by_folder (inl folder) true x true y true z = inl (record { folder = folder; path_after = x; other_after = y; written = z })

-- ---- the first of several pairs

abbrev IsAmongPairs : NamePair → List NamePair → Type 0
IsAmongPairs pair [] = ⊥
IsAmongPairs pair (x ∷ xs) = (pair ≡ x) ⊎ IsAmongPairs pair xs

-- the first clash among them, if there is one
record FirstAmong (change : NameChange) (files : Files) (pairs : List NamePair) : Type 0 where
  found : Option NamePair
  is_one : IsClashIfSome change files found
  first : (other : NamePair) → IsAmongPairs other pairs → IsNoEarlierClash change files found other

itself : (pair : NamePair) → is_pair_before_by_first_then_second_name pair pair ≡ false
itself pair = by_test (is_pair_before_by_first_then_second_name pair pair) refl
  where
    by_test : (b : Bool) → is_pair_before_by_first_then_second_name pair pair ≡ b → b ≡ false
    by_test true e = sym e ∙ pairs_one_way pair pair e
    by_test false e = refl

no_more : (change : NameChange) (files : Files) (pair : NamePair) (pairs : List NamePair) → (IsClash change files pair → ⊥) → FirstAmong change files pairs → FirstAmong change files (pair ∷ pairs)
no_more change files pair pairs never among = record {
  found = among.found;
  is_one = among.is_one;
  first = λ other here. elim here [
    | inl is ↦ λ clash. absurd (never (subst (IsClash change files) is clash))
    | inr more ↦ among.first other more
  ];
}

one_more : (change : NameChange) (files : Files) (pair : NamePair) (pairs : List NamePair) → IsClash change files pair → (found : Option NamePair) → IsClashIfSome change files found
    → ((other : NamePair) → IsAmongPairs other pairs → IsNoEarlierClash change files found other) → FirstAmong change files (pair ∷ pairs)
one_more change files pair pairs clash None is_one first = record {
  found = Some pair;
  is_one = clash;
  first = λ other here. elim here [
    | inl is ↦ λ c. subst (λ (x : NamePair). is_pair_before_by_first_then_second_name x pair ≡ false) (sym is) (itself pair)
    | inr more ↦ λ c. absurd (first other more c)
  ];
}
one_more change files pair pairs clash (Some f) is_one first = by_order (is_pair_before_by_first_then_second_name pair f) refl
  where
    by_order : (b : Bool) → is_pair_before_by_first_then_second_name pair f ≡ b → FirstAmong change files (pair ∷ pairs)
    by_order true e = record {
      found = Some pair;
      is_one = clash;
      first = λ other here. elim here [
        | inl is ↦ λ c. subst (λ (x : NamePair). is_pair_before_by_first_then_second_name x pair ≡ false) (sym is) (itself pair)
        | inr more ↦ λ c. pairs_chain other f pair (first other more c) (pairs_one_way pair f e)
      ];
    }
    by_order false e = record {
      found = Some f;
      is_one = is_one;
      first = λ other here. elim here [
        | inl is ↦ λ c. subst (λ (x : NamePair). is_pair_before_by_first_then_second_name x f ≡ false) (sym is) e
        | inr more ↦ first other more
      ];
    }

first_among : (change : NameChange) (files : Files) (pairs : List NamePair) → FirstAmong change files pairs
first_among change files [] = record { found = None; is_one = tt; first = λ other here. absurd here }
first_among change files (pair ∷ pairs) = by_test (is_clash change files pair) (first_among change files pairs)
  where
    by_test : IsClash change files pair ⊎ (IsClash change files pair → ⊥) → FirstAmong change files pairs → FirstAmong change files (pair ∷ pairs)
    by_test (inl clash) among = one_more change files pair pairs clash among.found among.is_one among.first
    by_test (inr never) among = no_more change files pair pairs never among

-- ---- all pairs of some names

pairs_with : List ℕ → List (List ℕ) → List NamePair
pairs_with path [] = []
pairs_with path (q ∷ names) = record { path = path; other = q } ∷ pairs_with path names

in_pairs_with : (path q : List ℕ) (names : List (List ℕ)) → IsIn q names → IsAmongPairs (record { path = path; other = q }) (pairs_with path names)
unfolding pairs_with
in_pairs_with path q [] here = here
in_pairs_with path q (x ∷ names) (inl is) = inl (ap (λ (y : List ℕ). record { path = path; other = y }) is)
in_pairs_with path q (x ∷ names) (inr more) = inr (in_pairs_with path q names more)

among_left : (pair : NamePair) (xs ys : List NamePair) → IsAmongPairs pair xs → IsAmongPairs pair (xs ++ ys)
among_left pair [] ys here = absurd here
among_left pair (x ∷ xs) ys (inl is) = inl is
among_left pair (x ∷ xs) ys (inr more) = inr (among_left pair xs ys more)

among_right : (pair : NamePair) (xs ys : List NamePair) → IsAmongPairs pair ys → IsAmongPairs pair (xs ++ ys)
among_right pair [] ys here = here
among_right pair (x ∷ xs) ys here = inr (among_right pair xs ys here)

all_pairs : List (List ℕ) → List (List ℕ) → List NamePair
all_pairs [] names = []
all_pairs (path ∷ paths) names = pairs_with path names ++ all_pairs paths names

in_all_pairs : (p q : List ℕ) (paths names : List (List ℕ)) → IsIn p paths → IsIn q names → IsAmongPairs (record { path = p; other = q }) (all_pairs paths names)
unfolding all_pairs
in_all_pairs p q [] names here there = here
in_all_pairs p q (x ∷ paths) names (inl is) there =
    among_left (record { path = p; other = q }) (pairs_with x names) (all_pairs paths names) (subst (λ (y : List ℕ). IsAmongPairs (record { path = p; other = q }) (pairs_with y names)) is (in_pairs_with p q names there))
in_all_pairs p q (x ∷ paths) names (inr more) there = among_right (record { path = p; other = q }) (pairs_with x names) (all_pairs paths names) (in_all_pairs p q paths names more there)

first_of_all : (change : NameChange) (files : Files) (names : List (List ℕ)) → ((q : List ℕ) → is_present_after_change change files q ≡ true → IsIn q names) → (found : Option NamePair) × IsFirstClashOrNone change files found
first_of_all change files names all = by_found (first_among change files (all_pairs names names))
  where
    at_pair : (pair : NamePair) → IsClash change files pair → IsAmongPairs pair (all_pairs names names)
    at_pair pair clash = in_all_pairs pair.path pair.other names names (all pair.path clash.path_after) (all pair.other clash.other_after)

    by_option : (found : Option NamePair) → IsClashIfSome change files found → ((other : NamePair) → IsAmongPairs other (all_pairs names names) → IsNoEarlierClash change files found other)
        → (found : Option NamePair) × IsFirstClashOrNone change files found
    by_option None is_one first = (None, λ pair clash. first pair (at_pair pair clash) clash)
    by_option (Some f) is_one first = (Some f, record { is_one = is_one; first = λ other clash before. true_false (sym before ∙ first other (at_pair other clash) clash) })

    by_found : FirstAmong change files (all_pairs names names) → (found : Option NamePair) × IsFirstClashOrNone change files found
    by_found among = by_option among.found among.is_one among.first

-- ---- of a change of files

module _ (change : FileChange) (files : Files) (within : List (List ℕ)) (finite : HasOnlyNamesAmong within files) where
  abbrev names : List (List ℕ)
  names = within ++ (database_name ∷ world_name ∷ (added_paths change.members ++ map apk_new_name (added_paths change.members)))

  abbrev written : List (List ℕ)
  written = database_name ∷ world_name ∷ (added_paths change.members ++ map apk_new_name (added_paths change.members))

  listed_in : (q : List ℕ) → IsIn q (database_name ∷ world_name ∷ added_paths change.members) → IsIn q written
  listed_in q (inl is) = inl is
  listed_in q (inr (inl is)) = inr (inl is)
  listed_in q (inr (inr path)) = inr (inr (in_left q (added_paths change.members) (map apk_new_name (added_paths change.members)) path))

  beside_in : (q : List ℕ) (path : Option (List ℕ)) → path_of_apk_new_name q ≡ path → is_some (option_and_then (listing_written_as_apk_new_beside change files) path) ≡ true → IsIn q written
  beside_in q None is e = absurd (true≢false (sym e))
  beside_in q (Some p) is e = by_listing (listing_written_as_apk_new_beside change files p) refl e
    where
      by_listing : (o : Option Listing) → listing_written_as_apk_new_beside change files p ≡ o → is_some o ≡ true → IsIn q written
      by_listing None laid e = absurd (true≢false (sym e))
      by_listing (Some l) laid e =
          inr (inr (in_right q (added_paths change.members) (map apk_new_name (added_paths change.members))
          (subst (λ (x : List ℕ). IsIn x (map apk_new_name (added_paths change.members))) (sym (beside_is q p is)) (in_map apk_new_name p (added_paths change.members) (in_coming_paths change p l (aside_found change files p l laid).0)))))

  counted_in : (q : List ℕ) → counts_as_written change files q ≡ true → IsIn q written
  unfolding counts_as_written
  counted_in q counts =
      elim (or_cases (list_any (bytes_eq q) (database_name ∷ world_name ∷ added_paths change.members)) (is_some (option_and_then (listing_written_as_apk_new_beside change files) (path_of_apk_new_name q))) counts) [
        | inl listed ↦ listed_in q (name_of_any q (database_name ∷ world_name ∷ added_paths change.members) listed)
        | inr beside ↦ beside_in q (path_of_apk_new_name q) refl beside
      ]

  after_in : (q : List ℕ) → is_present_after_change (name_change change files) files q ≡ true → IsIn q names
  after_in q there =
      elim (or_cases (is_some (files q) && not ((name_change change files).does_release q)) (counts_as_written change files q) there) [
        | inl present_files ↦ in_left q within written (name_of_any q within (finite q (and_parts (is_some (files q)) (not ((name_change change files).does_release q)) present_files).0))
        | inr counts ↦ in_right q within written (counted_in q counts)
      ]

  pub clash_exists : (found : Option NamePair) × IsFirstClashOrNone (name_change change files) files found
  clash_exists = first_of_all (name_change change files) files names after_in
