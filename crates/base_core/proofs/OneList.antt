-- One list of the names of a finite map, and one listing of each folder.
use Rattle.std.proofs.Common.{◌≡◌, ◌↔◌, inl, ℕ, Bool, true, false, ◌&&◌, ◌==◌, List, [], ◌∷◌, ◌++◌, Option, None, Some, IsSome, is_some, All, Contains, get_or, refl, sym, ap, ap₂, subst, ◌∙◌}
use Rattle.std.specs.Bool.{Decides}
use Rattle.std.specs.List.{list_any}
use Rattle.std.specs.Str.{bytes_eq}
use Rattle.std.proofs.lemmas.Bool.{and_parts}
use Rattle.std.proofs.lemmas.Bool.Decides.{Decides-eqb}
use Rattle.std.proofs.lemmas.Slice.Eq.{bytes_eq-Decides}
use Rattle.std.proofs.lemmas.Map.Views.{Contains-from_any}
use Rattle.base_core.specs.Files.{NameMap, HaveValidNamesAndBytes, AreFileBytes, HasOnlyNamesAmong, IsFolderOf}
use Rattle.base_core.specs.Tree.{TreeState, IsCurrentOrOlderMap, IsWellFormed, bytes_of_file_number, files_under_map, files_of}
use Rattle.base_core.specs.Listed.{AreSortedAndEachBelowFolder, IsSortedListingOfFolder, IsValidNameBelowFolder, IsSortedListOfAllNamesInMap, AreSortedDistinctTexts}
use Rattle.base_core.proofs.Rising.{in_at, keep, keep_rises, kept_passes, passing_kept, same_list, contains_from_in, in_from_contains, pairs_from_rises, rises_from_pairs}

-- just the names that P holds of, in byte order
record IsListed (P : List ℕ → Type 0) (names : List (List ℕ)) : Type 0 where
  pub rising : AreSortedDistinctTexts names
  pub each : (q : List ℕ) → Contains names q ↔ P q

listed : (P : List ℕ → Type 0) (test : List ℕ → Bool) → ((q : List ℕ) → Decides (test q) (P q))
    → (within : List (List ℕ)) → ((q : List ℕ) → P q → list_any (bytes_eq q) within ≡ true) → (names : List (List ℕ)) × IsListed P names
listed P test decides within all = (
  keep test within,
  record {
    rising = pairs_from_rises (keep test within) (keep_rises test within);
    each = λ q. (
      λ found. (decides q).0 (kept_passes test within q (in_from_contains (keep test within) q found)),
      λ holds. contains_from_in (keep test within) q
          (passing_kept test within q (in_from_contains within q (Contains-from_any (λ x y. (bytes_eq-Decides x y).0) q within (all q holds))) ((decides q).1 holds)),
    );
  },
)

only_list : (P : List ℕ → Type 0) (a b : List (List ℕ)) → IsListed P a → IsListed P b → a ≡ b
only_list P a b one two = same_list a b (rises_from_pairs a one.rising) (rises_from_pairs b two.rising)
    (λ q here. in_from_contains b q ((two.each q).1 ((one.each q).0 (contains_from_in a q here))))
    (λ q here. in_from_contains a q ((one.each q).1 ((two.each q).0 (contains_from_in b q here))))

-- ---- all names of a map

pub names_exist : {X : Type 0} (map : List ℕ → Option X) (within : List (List ℕ)) → HasOnlyNamesAmong within map → (names : List (List ℕ)) × IsSortedListOfAllNamesInMap map names
names_exist map within finite =
    let found = listed (λ q. IsSome (map q)) (λ q. is_some (map q)) (λ q. (λ h. h, λ h. h)) within finite in
    (found.0, record { rising = found.1.rising; each = found.1.each })

pub names_one : {X : Type 0} (map : List ℕ → Option X) (a b : List (List ℕ)) → IsSortedListOfAllNamesInMap map a → IsSortedListOfAllNamesInMap map b → a ≡ b
names_one map a b one two = only_list (λ q. IsSome (map q)) a b (record { rising = one.rising; each = one.each }) (record { rising = two.rising; each = two.each })

-- ---- the names below a folder

is_below : List ℕ → List ℕ → Bool
is_below [] [] = false
is_below [] (c ∷ q) = c == 47
is_below (x ∷ folder) [] = false
is_below (x ∷ folder) (c ∷ q) = (x == c) && is_below folder q

below_is : (folder q : List ℕ) → is_below folder q ≡ true → IsFolderOf folder q
unfolding is_below
below_is [] [] below = absurd (cc)
below_is [] (c ∷ q) below = (q, ap (λ x. x ∷ q) ((Decides-eqb c 47).0 below))
below_is (x ∷ folder) [] below = absurd (cc)
below_is (x ∷ folder) (c ∷ q) below =
    let parts = and_parts (x == c) (is_below folder q) below in
    let more = below_is folder q parts.1 in
    (more.0, ap₂ ◌∷◌ (sym ((Decides-eqb x c).0 parts.0)) more.1)

is_its_folder : (folder rest : List ℕ) → is_below folder (folder ++ 47 ∷ rest) ≡ true
unfolding is_below
is_its_folder [] rest = refl
is_its_folder (x ∷ folder) rest = ap₂ ◌&&◌ ((Decides-eqb x x).1 refl) (is_its_folder folder rest)

below_decides : (folder q : List ℕ) → Decides (is_below folder q) (IsFolderOf folder q)
below_decides folder q = (below_is folder q, λ below. ap (is_below folder) below.1 ∙ is_its_folder folder below.0)

list_decides : (folder : List ℕ) (v : TreeState) (q : List ℕ) → Decides (is_some (v.names q) && is_below folder q) (IsSome (v.names q) × IsFolderOf folder q)
list_decides folder v q = (
  λ h. (let parts = and_parts (is_some (v.names q)) (is_below folder q) h in (parts.0, (below_decides folder q).0 parts.1)),
  λ h. ap₂ ◌&&◌ h.0 ((below_decides folder q).1 h.1),
)

-- what holds of each that a list contains holds of all of it
all_contained : (P : List ℕ → Type 0) (names : List (List ℕ)) → ((q : List ℕ) → Contains names q → P q) → All P names
all_contained P names each k d within = each (get_or names k d) (contains_from_in names (get_or names k d) (in_at names k d within))

pub list_exists : (v : TreeState) → IsWellFormed v → (folder : List ℕ) → (names : List (List ℕ)) × IsSortedListingOfFolder folder v names × AreSortedAndEachBelowFolder folder names
list_exists v whole folder =
    let finite = whole.finite v.names (inl refl) in
    let found = listed (λ q. IsSome (v.names q) × IsFolderOf folder q) (λ q. is_some (v.names q) && is_below folder q) (list_decides folder v) finite.0 (λ q h. finite.1 q h.0) in (
      found.0,
      record { rising = found.1.rising; each = found.1.each },
      record {
        rising = found.1.rising;
        each = all_contained (IsValidNameBelowFolder folder) found.0 (λ q here.
            let present = (found.1.each q).0 here in record { named = whole.named v.names (inl refl) q present.0; below = present.1 });
      },
    )

pub list_one : (v : TreeState) (folder : List ℕ) (a b : List (List ℕ)) → IsSortedListingOfFolder folder v a → IsSortedListingOfFolder folder v b → a ≡ b
list_one v folder a b one two = only_list (λ q. IsSome (v.names q) × IsFolderOf folder q) a b (record { rising = one.rising; each = one.each }) (record { rising = two.rising; each = two.each })

-- ---- a name leads to a file just where its bytes are read

has_bytes : (v : TreeState) (n : Option ℕ) → IsSome n ↔ IsSome (bytes_of_file_number v.files n)
has_bytes v None = (λ h. h, λ h. h)
has_bytes v (Some n) = (λ h. refl, λ h. refl)

pub names_are_of_files : (v : TreeState) (names : List (List ℕ)) → IsSortedListOfAllNamesInMap v.names names → IsSortedListOfAllNamesInMap (files_of v) names
names_are_of_files v names of_map = record {
  rising = of_map.rising;
  each = λ q. (λ found. (has_bytes v (v.names q)).0 ((of_map.each q).0 found), λ some. (of_map.each q).1 ((has_bytes v (v.names q)).1 some));
}

-- ---- the files of a whole state

some_bytes : (v : TreeState) (n : Option ℕ) (bytes : List ℕ) → IsWellFormed v → bytes_of_file_number v.files n ≡ Some bytes → AreFileBytes bytes
some_bytes v None bytes whole is = absurd (cc)
some_bytes v (Some n) bytes whole is = let same : (v.files n).bytes ≡ bytes = cc in subst AreFileBytes same (whole.bytes n)

pub files_named : (v : TreeState) → IsWellFormed v → (map : NameMap) → IsCurrentOrOlderMap v map → HaveValidNamesAndBytes (files_under_map v map)
files_named v whole map among = record {
  named = λ q some. whole.named map among q ((has_bytes v (map q)).1 some);
  each = λ q bytes is. some_bytes v (map q) bytes whole is;
}

pub files_finite : (v : TreeState) → IsWellFormed v → (names : List (List ℕ)) × HasOnlyNamesAmong names (files_of v)
files_finite v whole =
    let finite = whole.finite v.names (inl refl) in
    (finite.0, λ q some. finite.1 q ((has_bytes v (v.names q)).1 some))
