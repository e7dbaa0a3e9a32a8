-- What the folders' code rests on: where a search of names in order ends, and the folders over a path that goes on.
use Rattle.std.proofs.Common.{◌≡◌, ℕ, zero, suc, ◌+◌, ◌<◌, ◌≤◌, Bool, true, false, List, [], ◌∷◌, ◌++◌, length, take, get_or, map, refl, sym, ap, ◌∙◌, subst, arith, if◌then◌else◌, not, add-one, Bor}
use Rattle.std.proofs.lemmas.List.{take_more}
use Rattle.std.specs.List.{AllWithin, HoldsAt, AllByRecursion, insert}
use Rattle.std.specs.List.Sorted.{IsStrictlySortedBy, IsNonDecreasingBy, IsPartitionPoint}
use Rattle.std.proofs.lemmas.List.Sorted.{searchable_from_sorted}
use Rattle.std.specs.Ordering.{nat_cmp, ordering_reverse, ordering_index, is_lt}
use Rattle.std.specs.Cmp.Lexicographic.{slice_cmp}
use Rattle.std.proofs.lemmas.Cmp.{nat_list_cmp_total}
use borrow.Author.Tests.{ne_eqb}
use Rattle.std.specs.declared.cmp.Ordering.{Ordering}
use Rattle.std.specs.declared.cmp.Ordering.TheVariants.{Less, Equal, Greater}
use Rattle.package_files.specs.Folders.{is_slash, prefixes_before_slashes_of_byte_and_rest, prefixes_before_slashes, with_folder_inserted_by_cmp_with_first, with_folder_inserted, sorted_folders_with_names_inserted}

abbrev pub cmp : List ℕ → List ℕ → Ordering
cmp = slice_cmp nat_cmp

pub turned : (a b : List ℕ) (o : Ordering) → cmp a b ≡ o → cmp b a ≡ ordering_reverse o
turned a b o e = nat_list_cmp_total.antisymm b a ∙ ap ordering_reverse e

pub placed_as : (o : Ordering) (x y : List ℕ) (ys : List (List ℕ)) → cmp x y ≡ o → with_folder_inserted x (y ∷ ys) ≡ with_folder_inserted_by_cmp_with_first o x y ys (with_folder_inserted x ys)
placed_as o x y ys e = ap (λ (r : Ordering). with_folder_inserted_by_cmp_with_first r x y ys (with_folder_inserted x ys)) e

module _ {X : Type 0} (key : X → List ℕ) (x : X) where
  -- a new name goes between the lesser and the greater ones
  pub placed_at : (xs : List X) (i : ℕ) → i ≤ length xs
      → AllWithin (λ y. cmp (key y) (key x) ≡ Less) xs 0 i → AllWithin (λ y. cmp (key y) (key x) ≡ Greater) xs i (length xs)
      → map key (insert xs i x) ≡ with_folder_inserted (key x) (map key xs)
  placed_at [] zero h below above = refl
  placed_at [] (suc i) h below above = absurd (omega arith)
  placed_at (y ∷ ys) zero h below above =
      sym (placed_as Less (key x) (key y) (map key ys) (turned (key y) (key x) Greater (above 0 y (omega arith) (omega arith))))
  placed_at (y ∷ ys) (suc i) h below above =
      let further : map key (insert ys i x) ≡ with_folder_inserted (key x) (map key ys) =
      placed_at ys i (omega arith) (λ k d lo hi. below (suc k) d (omega arith) (omega arith)) (λ k d lo hi. above (suc k) d (omega arith) (omega arith)) in
      ap (λ (l : List (List ℕ)). key y ∷ l) further
      ∙ sym (placed_as Greater (key x) (key y) (map key ys) (turned (key y) (key x) Less (below 0 y (omega arith) (omega arith))))

  pub later : (y : X) (ys : List X) → AllByRecursion (λ z. cmp (key y) z ≡ Less) (map key ys) → (k : ℕ) (d : X) → k < length ys → cmp (key y) (key (get_or ys k d)) ≡ Less
  later y [] h k d lt = absurd (omega arith)
  later y (z ∷ zs) h zero d lt = h.0
  later y (z ∷ zs) h (suc k) d lt = later y zs h.1 k d (omega arith)

  -- a name that is there stays
  pub placed_found : (xs : List X) (i : ℕ) → i < length xs → IsStrictlySortedBy cmp (map key xs)
      → HoldsAt (λ y. cmp (key y) (key x) ≡ Equal) xs i → map key xs ≡ with_folder_inserted (key x) (map key xs)
  unfolding IsStrictlySortedBy
  placed_found [] i lt sorted here = absurd (omega arith)
  placed_found (y ∷ ys) zero lt sorted here =
      sym (placed_as Equal (key x) (key y) (map key ys) (turned (key y) (key x) Equal (here y)))
  placed_found (y ∷ ys) (suc i) lt sorted here =
      let below : cmp (key y) (key (get_or ys i y)) ≡ Less = later y ys sorted.0 i y (omega arith) in
      let greater : cmp (key (get_or ys i y)) (key y) ≡ Greater = turned (key y) (key (get_or ys i y)) Less below in
      let same : cmp (key (get_or ys i y)) (key y) ≡ cmp (key x) (key y) = nat_list_cmp_total.congr (key (get_or ys i y)) (key x) (key y) (here y) in
      let further : map key ys ≡ with_folder_inserted (key x) (map key ys) = placed_found ys i (omega arith) sorted.1 (λ d. here d) in
      ap (λ (l : List (List ℕ)). key y ∷ l) further
      ∙ sym (placed_as Greater (key x) (key y) (map key ys) (sym same ∙ greater))

module _ {X : Type 0} (key : X → List ℕ) where
  adjacent : (xs : List X) (k : ℕ) (d : X) → suc k < length xs → IsStrictlySortedBy cmp (map key xs) → cmp (key (get_or xs k d)) (key (get_or xs (suc k) d)) ≡ Less
  unfolding IsStrictlySortedBy
  adjacent [] k d lt h = absurd (omega arith)
  adjacent (y ∷ ys) zero d lt h = later key y y ys h.0 0 d (omega arith)
  adjacent (y ∷ ys) (suc k) d lt h = adjacent ys k d (omega arith) h.1

  -- names in order can be searched
  pub searchable : (xs : List X) (x : List ℕ) → IsStrictlySortedBy cmp (map key xs) → IsNonDecreasingBy (λ y. ordering_index (cmp (key y) x)) xs
  searchable xs x h =
      searchable_from_sorted nat_list_cmp_total key xs x
      (λ k d lo hi. let lt : suc k < length xs = omega arith in
      rw add-one (ap is_lt (turned (key (get_or xs k d)) (key (get_or xs (suc k) d)) Less (adjacent xs k d lt h))))

-- ---- a list of borrowed names

abbrev named : List (Bor (List ℕ)) → List (List ℕ)
named xs = map (λ name. name.now) xs

abbrev pub against : List ℕ → Bor (List ℕ) → Ordering
against x y = cmp y.now x

pub found_in : (ds xs : List (Bor (List ℕ))) (x : Bor (List ℕ)) (i : ℕ) → ds ≡ xs → i < length ds → IsStrictlySortedBy cmp (named xs)
    → HoldsAt (λ y. against x.now y ≡ Equal) ds i → named xs ≡ with_folder_inserted x.now (named xs)
found_in ds xs x i e lt sorted here =
    placed_found (λ name. name.now) x xs i
    (let P : List (Bor (List ℕ)) → Type 0 = λ l. i < length l in subst P e lt)
    sorted
    (λ d. let P : List (Bor (List ℕ)) → Type 0 = λ l. against x.now (get_or l i d) ≡ Equal in subst P e (here d))

pub inserted_in : (ds xs : List (Bor (List ℕ))) (x : Bor (List ℕ)) (i : ℕ) → ds ≡ xs → i ≤ length ds → IsStrictlySortedBy cmp (named xs)
    → (IsNonDecreasingBy (λ y. ordering_index (against x.now y)) ds → IsPartitionPoint (λ y. against x.now y ≡ Less) (λ y. against x.now y ≡ Greater) ds i)
    → named (insert xs i x) ≡ with_folder_inserted x.now (named xs)
inserted_in ds xs x i e le sorted point =
    let P : List (Bor (List ℕ)) → Type 0 = λ l. i ≤ length l in
    let Q : List (Bor (List ℕ)) → Type 0 = λ l. IsNonDecreasingBy (λ y. ordering_index (against x.now y)) l → IsPartitionPoint (λ y. against x.now y ≡ Less) (λ y. against x.now y ≡ Greater) l i in
    let there = subst Q e point (searchable (λ name. name.now) xs x.now sorted) in
    placed_at (λ name. name.now) x xs i (subst P e le) there.0 there.1

-- ---- names stay in order

all_placed_below : (P : List ℕ → Type 0) (x : List ℕ) (ys : List (List ℕ)) → P x → AllByRecursion P ys → AllByRecursion P (with_folder_inserted x ys)
all_placed_below P x [] p h = (p, tt)
all_placed_below P x (y ∷ ys) p h = by (cmp x y) (all_placed_below P x ys p h.1)
  where
    by : (o : Ordering) → AllByRecursion P (with_folder_inserted x ys) → AllByRecursion P (with_folder_inserted_by_cmp_with_first o x y ys (with_folder_inserted x ys))
    by Less r = (p, (h.0, h.1))
    by Equal r = (h.0, h.1)
    by Greater r = (h.0, r)

along : (x y : List ℕ) (ys : List (List ℕ)) → cmp x y ≡ Less → AllByRecursion (λ z. cmp y z ≡ Less) ys → AllByRecursion (λ z. cmp x z ≡ Less) ys
along x y [] e h = tt
along x y (z ∷ zs) e h = (nat_list_cmp_total.trans x y z e h.0, along x y zs e h.1)

pub placed_sorted : (x : List ℕ) (ys : List (List ℕ)) → IsStrictlySortedBy cmp ys → IsStrictlySortedBy cmp (with_folder_inserted x ys)
unfolding IsStrictlySortedBy
placed_sorted x [] h = (tt, tt)
placed_sorted x (y ∷ ys) h = by (cmp x y) refl (placed_sorted x ys h.1)
  where
    by : (o : Ordering) → cmp x y ≡ o → IsStrictlySortedBy cmp (with_folder_inserted x ys) → IsStrictlySortedBy cmp (with_folder_inserted_by_cmp_with_first o x y ys (with_folder_inserted x ys))
    by Less e r = ((e, along x y ys e h.0), h)
    by Equal e r = h
    by Greater e r = (all_placed_below (λ z. cmp y z ≡ Less) x ys (turned x y Greater e) h.0, r)

-- ---- the folders over a path

pub all_placed_append : (so_far xs ys : List (List ℕ)) → sorted_folders_with_names_inserted so_far (xs ++ ys) ≡ sorted_folders_with_names_inserted (sorted_folders_with_names_inserted so_far xs) ys
all_placed_append so_far [] ys = refl
all_placed_append so_far (x ∷ xs) ys = all_placed_append (with_folder_inserted x so_far) xs ys

abbrev at_byte : ℕ → List ℕ → List (List ℕ)
at_byte b path = if is_slash b then path ∷ [] else []

map_append : (f : List ℕ → List ℕ) (xs ys : List (List ℕ)) → map f (xs ++ ys) ≡ map f xs ++ map f ys
map_append f [] ys = refl
map_append f (x ∷ xs) ys = ap (λ (l : List (List ℕ)). f x ∷ l) (map_append f xs ys)

with_more : (a b : ℕ) (path : List ℕ) (l : List (List ℕ)) → prefixes_before_slashes_of_byte_and_rest a (l ++ at_byte b path) ≡ prefixes_before_slashes_of_byte_and_rest a l ++ at_byte b (a ∷ path)
with_more a b path l = by (is_slash a) (is_slash b)
  where
    by : (s t : Bool) → (if s then [] ∷ map (λ folder. a ∷ folder) (l ++ (if t then path ∷ [] else [])) else map (λ folder. a ∷ folder) (l ++ (if t then path ∷ [] else [])))
        ≡ (if s then [] ∷ map (λ folder. a ∷ folder) l else map (λ folder. a ∷ folder) l) ++ (if t then (a ∷ path) ∷ [] else [])
    by true true = ap (λ (r : List (List ℕ)). [] ∷ r) (map_append (λ folder. a ∷ folder) l (path ∷ []))
    by true false = ap (λ (r : List (List ℕ)). [] ∷ r) (map_append (λ folder. a ∷ folder) l [])
    by false true = map_append (λ folder. a ∷ folder) l (path ∷ [])
    by false false = map_append (λ folder. a ∷ folder) l []

-- a path that goes on with one byte
pub slashes_more : (path : List ℕ) (b : ℕ) → prefixes_before_slashes (path ++ b ∷ []) ≡ prefixes_before_slashes path ++ at_byte b path
slashes_more [] b = refl
slashes_more (a ∷ rest) b = ap (prefixes_before_slashes_of_byte_and_rest a) (slashes_more rest b) ∙ with_more a b rest (prefixes_before_slashes rest)

path_more : (path : List ℕ) (i : ℕ) → i < length path → prefixes_before_slashes (take (i + 1) path) ≡ prefixes_before_slashes (take i path) ++ at_byte (get_or path i 0) (take i path)
path_more path i lt = ap prefixes_before_slashes (take_more path i 0 lt) ∙ slashes_more (take i path) (get_or path i 0)

abbrev over : List (List ℕ) → List ℕ → ℕ → List (List ℕ)
over start path i = sorted_folders_with_names_inserted start (prefixes_before_slashes (take i path))

over_next : (start : List (List ℕ)) (path : List ℕ) (i : ℕ) → i < length path → over start path (i + 1) ≡ sorted_folders_with_names_inserted (over start path i) (at_byte (get_or path i 0) (take i path))
over_next start path i lt = ap (sorted_folders_with_names_inserted start) (path_more path i lt) ∙ all_placed_append start (prefixes_before_slashes (take i path)) (at_byte (get_or path i 0) (take i path))

-- the byte at i is a slash, or another byte
pub over_slash : (start before later : List (List ℕ)) (path : List ℕ) (i : ℕ) → i < length path → get_or path i 0 ≡ 47
    → before ≡ over start path i → later ≡ with_folder_inserted (take i path) before → later ≡ over start path (i + 1)
over_slash start before later path i lt e so_far added =
    added ∙ ap (with_folder_inserted (take i path)) so_far ∙ sym (over_next start path i lt ∙ ap (λ (b : ℕ). sorted_folders_with_names_inserted (over start path i) (at_byte b (take i path))) e)

pub over_other : (start before later : List (List ℕ)) (path : List ℕ) (i : ℕ) → i < length path → (get_or path i 0 ≡ 47 → ⊥)
    → before ≡ over start path i → later ≡ before → later ≡ over start path (i + 1)
over_other start before later path i lt ne so_far same =
    same ∙ so_far ∙ sym (over_next start path i lt ∙ ap (λ (t : Bool). sorted_folders_with_names_inserted (over start path i) (if t then take i path ∷ [] else [])) (ne_eqb _ _ ne))

-- what a byte that is no slash answers
pub not_slash : (b : ℕ) → (b ≡ 47 → ⊥) → not (is_slash b) ≡ true
not_slash b ne = ap not (ne_eqb b 47 ne)

pub slash : (b : ℕ) → b ≡ 47 → not (is_slash b) ≡ false
slash b e = ap (λ (c : ℕ). not (is_slash c)) e
