-- What stands in the folders of a package: they are in order, each is over a path, and each name stands in just one.
use Rattle.std.proofs.Common.{◌≡◌, ◌⊎◌, inl, inr, ⊎_elim, ℕ, zero, suc, ◌-◌, ◌<◌, ◌≤◌, Bool, true, false, cond, not, if◌then◌else◌, List, [], ◌∷◌, ◌++◌, length, take, get_or, map, filter, flat_map, bytes_eq, Any, Contains, IsPermutation, refl, ap, sym, ◌∙◌, subst, arith, true≢false}
use Rattle.std.specs.List.{AllByRecursion, suffix_len}
use Rattle.std.specs.List.Sorted.{IsStrictlySortedBy}
use Rattle.std.specs.Ordering.{is_eq}
use Rattle.std.specs.declared.cmp.Ordering.{Ordering}
use Rattle.std.specs.declared.cmp.Ordering.TheVariants.{Less, Equal, Greater}
use Rattle.std.proofs.lemmas.List.Elements.{Contains-append_cases, Contains-append_left, Contains-append_right}
use Rattle.std.proofs.lemmas.List.Sorted.{IsPermutation-append_right, IsPermutation-cons, IsPermutation-middle, IsPermutation-refl, IsPermutation-sym, IsPermutation-trans}
use Rattle.std.proofs.lemmas.List.Sums.{suffix_len_is}
use Rattle.std.proofs.lemmas.Map.Text.{is_eq-slice_cmp}
use Rattle.std.proofs.lemmas.Slice.Eq.{bytes_eq-Decides}
use Rattle.package_files.specs.Folders.{FolderListing, prefixes_before_slashes, all_folders_above, folder_of, folder_listings_by_tree_names, folders_above, is_slash, folder_listing_by_tree_names, tree_names_in_package_folder, path_relative_to, with_folder_inserted, with_folder_inserted_by_cmp_with_first, sorted_folders_with_names_inserted}
use Rattle.package_files.proofs.FolderLemmas.{cmp, placed_sorted, turned}
use Rattle.package_files.proofs.PlaceLemmas.{differs}

-- ---- elements

module _ {X : Type 0} where
  pub none_in : (x : X) → Contains [] x → ⊥
  none_in x h = let l = h.1 in absurd (omega arith)

  pub here : (x : X) (xs : List X) → Contains (x ∷ xs) x
  here x xs = (zero, omega arith, refl)

  pub there : (x y : X) (xs : List X) → Contains xs x → Contains (y ∷ xs) x
  there x y xs h = let l = h.1 in (suc h.0, omega arith, h.2)

  pub either : (x y : X) (xs : List X) → Contains (y ∷ xs) x → (y ≡ x) ⊎ Contains xs x
  either x y xs h = at h.0 h.1 h.2
    where
      at : (k : ℕ) → k < length (y ∷ xs) → get_or (y ∷ xs) k x ≡ x → (y ≡ x) ⊎ Contains xs x
      at zero l e = inl e
      at (suc k) l e = inr (k, omega arith, e)

module _ {X Y : Type 0} (f : X → Y) where
  pub mapped : (x : X) (xs : List X) → Contains xs x → Contains (map f xs) (f x)
  mapped x [] h = absurd (none_in x h)
  mapped x (y ∷ ys) h = by (mapped x ys) (either x y ys h)
    where
      by : (Contains ys x → Contains (map f ys) (f x)) → (y ≡ x) ⊎ Contains ys x → Contains (map f (y ∷ ys)) (f x)
      by further (inl e) = (zero, omega arith, ap f e)
      by further (inr t) = there (f x) (f y) (map f ys) (further t)

module _ {X Y : Type 0} (f : X → List Y) where
  in_flat : (x : X) (z : Y) (xs : List X) → Contains xs x → Contains (f x) z → Contains (flat_map f xs) z
  in_flat x z [] h g = absurd (none_in x h)
  in_flat x z (y ∷ ys) h g = by (λ t. in_flat x z ys t g) (either x y ys h)
    where
      by : (Contains ys x → Contains (flat_map f ys) z) → (y ≡ x) ⊎ Contains ys x → Contains (flat_map f (y ∷ ys)) z
      by further (inl e) = Contains-append_left (f y) (flat_map f ys) z (subst (λ w. Contains (f w) z) (sym e) g)
      by further (inr t) = Contains-append_right (f y) (flat_map f ys) z (further t)

  from_flat : (z : Y) (xs : List X) → Contains (flat_map f xs) z → Any (λ x. Contains (f x) z) xs
  from_flat z [] h = absurd (none_in z h)
  from_flat z (y ∷ ys) h = by (from_flat z ys) (Contains-append_cases (f y) (flat_map f ys) z h)
    where
      by : (Contains (flat_map f ys) z → Any (λ x. Contains (f x) z) ys) → Contains (f y) z ⊎ Contains (flat_map f ys) z → Any (λ x. Contains (f x) z) (y ∷ ys)
      by further (inl g) = (zero, y, omega arith, refl, g)
      by further (inr g) = let (k, x, l, e, t) = further g in (suc k, x, omega arith, e, t)

-- ---- names that were put in order

exact : (x y : List ℕ) → cmp x y ≡ Equal → x ≡ y
exact x y e = (bytes_eq-Decides x y).0 (sym (is_eq-slice_cmp x y) ∙ ap is_eq e)

new_there : (x : List ℕ) (ys : List (List ℕ)) → Contains (with_folder_inserted x ys) x
new_there x [] = here x []
new_there x (y ∷ ys) = by (cmp x y) refl (new_there x ys)
  where
    by : (o : Ordering) → cmp x y ≡ o → Contains (with_folder_inserted x ys) x → Contains (with_folder_inserted_by_cmp_with_first o x y ys (with_folder_inserted x ys)) x
    by Less e h = here x (y ∷ ys)
    by Equal e h = (zero, omega arith, sym (exact x y e))
    by Greater e h = there x y (with_folder_inserted x ys) h

old_there : (x z : List ℕ) (ys : List (List ℕ)) → Contains ys z → Contains (with_folder_inserted x ys) z
old_there x z [] h = absurd (none_in z h)
old_there x z (y ∷ ys) h = by (cmp x y) (old_there x z ys)
  where
    further : (Contains ys z → Contains (with_folder_inserted x ys) z) → (y ≡ z) ⊎ Contains ys z → Contains (y ∷ with_folder_inserted x ys) z
    further f (inl e) = (zero, omega arith, e)
    further f (inr t) = there z y (with_folder_inserted x ys) (f t)

    by : (o : Ordering) → (Contains ys z → Contains (with_folder_inserted x ys) z) → Contains (with_folder_inserted_by_cmp_with_first o x y ys (with_folder_inserted x ys)) z
    by Less f = there z x (y ∷ ys) h
    by Equal f = h
    by Greater f = further f (either z y ys h)

one_from : (x z : List ℕ) (ys : List (List ℕ)) → Contains (with_folder_inserted x ys) z → (x ≡ z) ⊎ Contains ys z
one_from x z [] h = either z x [] h
one_from x z (y ∷ ys) h = by (cmp x y) (one_from x z ys) h
  where
    further : (Contains (with_folder_inserted x ys) z → (x ≡ z) ⊎ Contains ys z) → (y ≡ z) ⊎ Contains (with_folder_inserted x ys) z → (x ≡ z) ⊎ Contains (y ∷ ys) z
    further f (inl e) = inr (zero, omega arith, e)
    further f (inr t) = ⊎_elim inl (λ g. inr (there z y ys g)) (f t)

    by : (o : Ordering) → (Contains (with_folder_inserted x ys) z → (x ≡ z) ⊎ Contains ys z) → Contains (with_folder_inserted_by_cmp_with_first o x y ys (with_folder_inserted x ys)) z → (x ≡ z) ⊎ Contains (y ∷ ys) z
    by Less f g = either z x (y ∷ ys) g
    by Equal f g = inr g
    by Greater f g = further f (either z y (with_folder_inserted x ys) g)

all_there : (so_far names : List (List ℕ)) (z : List ℕ) → Contains so_far z ⊎ Contains names z → Contains (sorted_folders_with_names_inserted so_far names) z
all_there so_far [] z (inl h) = h
all_there so_far [] z (inr h) = absurd (none_in z h)
all_there so_far (x ∷ xs) z (inl h) = all_there (with_folder_inserted x so_far) xs z (inl (old_there x z so_far h))
all_there so_far (x ∷ xs) z (inr h) = by (all_there (with_folder_inserted x so_far) xs z) (either z x xs h)
  where
    by : (Contains (with_folder_inserted x so_far) z ⊎ Contains xs z → Contains (sorted_folders_with_names_inserted (with_folder_inserted x so_far) xs) z) → (x ≡ z) ⊎ Contains xs z → Contains (sorted_folders_with_names_inserted (with_folder_inserted x so_far) xs) z
    by f (inl e) = f (inl (subst (Contains (with_folder_inserted x so_far)) e (new_there x so_far)))
    by f (inr t) = f (inr t)

all_from : (so_far names : List (List ℕ)) (z : List ℕ) → Contains (sorted_folders_with_names_inserted so_far names) z → Contains so_far z ⊎ Contains names z
all_from so_far [] z h = inl h
all_from so_far (x ∷ xs) z h = by (all_from (with_folder_inserted x so_far) xs z h)
  where
    first : (x ≡ z) ⊎ Contains so_far z → Contains so_far z ⊎ Contains (x ∷ xs) z
    first (inl e) = inr (zero, omega arith, e)
    first (inr t) = inl t

    by : Contains (with_folder_inserted x so_far) z ⊎ Contains xs z → Contains so_far z ⊎ Contains (x ∷ xs) z
    by (inl t) = first (one_from x z so_far t)
    by (inr t) = inr (there z x xs t)

all_sorted : (so_far names : List (List ℕ)) → IsStrictlySortedBy cmp so_far → IsStrictlySortedBy cmp (sorted_folders_with_names_inserted so_far names)
all_sorted so_far [] h = h
all_sorted so_far (x ∷ xs) h = all_sorted (with_folder_inserted x so_far) xs (placed_sorted x so_far h)

none_sorted : IsStrictlySortedBy cmp []
unfolding IsStrictlySortedBy
none_sorted = tt

-- ---- the folders of paths

pub rising : (paths : List (List ℕ)) → IsStrictlySortedBy cmp (all_folders_above paths)
rising paths = all_sorted [] (flat_map folders_above paths) none_sorted

pub folder_there : (paths : List (List ℕ)) (path folder : List ℕ) → Contains paths path → Contains (folders_above path) folder → Contains (all_folders_above paths) folder
folder_there paths path folder h g = all_there [] (flat_map folders_above paths) folder (inr (in_flat folders_above path folder paths h g))

pub folder_over : (paths : List (List ℕ)) (folder : List ℕ) → Contains (all_folders_above paths) folder → Any (λ path. Contains (folders_above path) folder) paths
folder_over paths folder h =
    ⊎_elim (λ g. absurd (none_in folder g)) (from_flat folders_above folder paths) (all_from [] (flat_map folders_above paths) folder h)

-- ---- a path stands in one of the folders over it

pub before_slash : (path : List ℕ) (i : ℕ) → i < length path → is_slash (get_or path i 0) ≡ true → Contains (prefixes_before_slashes path) (take i path)
before_slash [] i l e = absurd (omega arith)
before_slash (b ∷ bs) zero l e = subst (λ (c : Bool). Contains (if c then [] ∷ map (λ folder. b ∷ folder) (prefixes_before_slashes bs) else map (λ folder. b ∷ folder) (prefixes_before_slashes bs)) []) (sym e) (here [] (map (λ folder. b ∷ folder) (prefixes_before_slashes bs)))
before_slash (b ∷ bs) (suc i) l e = by (is_slash b) (mapped (λ folder. b ∷ folder) (take i bs) (prefixes_before_slashes bs) (before_slash bs i (omega arith) e))
  where
    by : (c : Bool) → Contains (map (λ folder. b ∷ folder) (prefixes_before_slashes bs)) (b ∷ take i bs) → Contains (if c then [] ∷ map (λ folder. b ∷ folder) (prefixes_before_slashes bs) else map (λ folder. b ∷ folder) (prefixes_before_slashes bs)) (b ∷ take i bs)
    by true h = there (b ∷ take i bs) [] (map (λ folder. b ∷ folder) (prefixes_before_slashes bs)) h
    by false h = h

-- where the last part of a path begins
pub record IsStart (path : List ℕ) (n : ℕ) : Type 0 where
  pub within : n ≤ length path
  pub passes : (k : ℕ) → n ≤ k → k < length path → not (is_slash (get_or path k 0)) ≡ true
  pub stops : 0 < n → is_slash (get_or path (n - 1) 0) ≡ true

from_least : (k m : ℕ) → m ≤ k → (k ≡ m) ⊎ (suc m ≤ k)
from_least zero zero lo = inl refl
from_least (suc k) zero lo = inr (omega arith)
from_least zero (suc m) lo = absurd (omega arith)
from_least (suc k) (suc m) lo = ⊎_elim (λ e. inl (ap suc e)) (λ l. inr (omega arith)) (from_least k m (omega arith))

pub start_of : (path : List ℕ) (n : ℕ) → n ≤ length path → ((k : ℕ) → n ≤ k → k < length path → not (is_slash (get_or path k 0)) ≡ true) → (m : ℕ) × IsStart path m
start_of path zero l h = (zero, record { within = l; passes = h; stops = λ lt. absurd (omega arith) })
start_of path (suc n) l h = by (is_slash (get_or path n 0)) refl (start_of path n (omega arith))
  where
    here_too : is_slash (get_or path n 0) ≡ false → (k : ℕ) → n ≤ k → k < length path → (k ≡ n) ⊎ (suc n ≤ k) → not (is_slash (get_or path k 0)) ≡ true
    here_too e k lo hi (inl same) = ap (λ i. not (is_slash (get_or path i 0))) same ∙ ap not e
    here_too e k lo hi (inr more) = h k more hi

    by : (b : Bool) → is_slash (get_or path n 0) ≡ b → (((k : ℕ) → n ≤ k → k < length path → not (is_slash (get_or path k 0)) ≡ true) → (m : ℕ) × IsStart path m) → (m : ℕ) × IsStart path m
    by true e f =
        let back : suc n - 1 ≡ n = omega arith in
        (suc n, record { within = l; passes = h; stops = λ lt. subst (λ i. is_slash (get_or path i 0) ≡ true) (sym back) e })
    by false e f = f (λ k lo hi. here_too e k lo hi (from_least k n lo))

pub of_start : (path : List ℕ) (m : ℕ) → IsStart path m → folder_of path ≡ take (m - 1) path
of_start path m s =
    let e : suffix_len (λ b. not (is_slash b)) path ≡ length path - m = suffix_len_is (λ b. not (is_slash b)) path m 0 s.within s.passes (λ lt. ap not (s.stops lt)) in
    let le = s.within in
    let before : length path - suffix_len (λ b. not (is_slash b)) path - 1 ≡ m - 1 = omega arith in
    ap (λ n. take n path) before

in_folder : (path : List ℕ) → Contains (folders_above path) (folder_of path)
in_folder path = by start.0 start.1
  where
    start : (m : ℕ) × IsStart path m
    start = start_of path (length path) (omega arith) (λ k lo hi. absurd (omega arith))

    by : (m : ℕ) → IsStart path m → Contains (folders_above path) (folder_of path)
    by m s = subst (Contains (folders_above path)) (sym (of_start path m s)) (at m s.within s.stops)
      where
        at : (m : ℕ) → m ≤ length path → (0 < m → is_slash (get_or path (m - 1) 0) ≡ true) → Contains (folders_above path) (take (m - 1) path)
        at zero le stops = here [] (prefixes_before_slashes path)
        at (suc n) le stops =
            let back : suc n - 1 ≡ n = omega arith in
            let here_is = subst (λ i. is_slash (get_or path i 0) ≡ true) back (stops (omega arith)) in
            subst (λ i. Contains (folders_above path) (take i path)) (sym back) (there (take n path) [] (prefixes_before_slashes path) (before_slash path n (omega arith) here_is))

-- ---- names parted by a key

module _ (key : List ℕ → List ℕ) where
  has : List ℕ → List ℕ → Bool
  has k n = bytes_eq (key n) k

  parts : List (List ℕ) → List (List ℕ) → List (List ℕ)
  parts names [] = []
  parts names (k ∷ ks) = filter (has k) names ++ parts names ks

  no_part : (x : List ℕ) (names ks : List (List ℕ)) → AllByRecursion (λ k. has k x ≡ false) ks → parts (x ∷ names) ks ≡ parts names ks
  unfolding parts
  no_part x names [] h = refl
  no_part x names (k ∷ ks) h = λ j. cond (h.0 j) (x ∷ filter (has k) names) (filter (has k) names) ++ (no_part x names ks h.1) j

  later_differ : (k x : List ℕ) (ks : List (List ℕ)) → has k x ≡ true → AllByRecursion (λ y. cmp k y ≡ Less) ks → AllByRecursion (λ y. has y x ≡ false) ks
  unfolding has
  later_differ k x [] e h = tt
  later_differ k x (y ∷ ys) e h =
      let same : key x ≡ k = (bytes_eq-Decides (key x) k).0 e in
      let apart : bytes_eq k y ≡ false = differs k y Greater (turned k y Less h.0) in
      (ap (λ n. bytes_eq n y) same ∙ apart, later_differ k x ys e h.1)

  one_more : (x : List ℕ) (names ks : List (List ℕ)) → IsStrictlySortedBy cmp ks → Contains ks (key x) → IsPermutation (x ∷ parts names ks) (parts (x ∷ names) ks)
  unfolding parts has IsStrictlySortedBy
  one_more x names [] s h = absurd (none_in (key x) h)
  one_more x names (k ∷ ks) s h = by (has k x) refl (one_more x names ks s.1)
    where
      elsewhere : has k x ≡ false → (k ≡ key x) ⊎ Contains ks (key x) → Contains ks (key x)
      elsewhere e (inl same) = absurd (true≢false (sym ((bytes_eq-Decides (key x) k).1 (sym same)) ∙ e))
      elsewhere e (inr t) = t

      by : (b : Bool) → has k x ≡ b → (Contains ks (key x) → IsPermutation (x ∷ parts names ks) (parts (x ∷ names) ks))
          → IsPermutation (x ∷ (filter (has k) names ++ parts names ks)) (cond b (x ∷ filter (has k) names) (filter (has k) names) ++ parts (x ∷ names) ks)
      by true e f =
          subst (λ rest. IsPermutation (x ∷ (filter (has k) names ++ parts names ks)) (x ∷ (filter (has k) names ++ rest))) (sym (no_part x names ks (later_differ k x ks e s.0))) (IsPermutation-refl (x ∷ (filter (has k) names ++ parts names ks)))
      by false e f =
          IsPermutation-trans _ _ _ (IsPermutation-sym _ _ (IsPermutation-middle (filter (has k) names) x (parts names ks)))
          (IsPermutation-append_right (filter (has k) names) (x ∷ parts names ks) (parts (x ∷ names) ks) (f (elsewhere e (either (key x) k ks h))))

  no_parts : (ks : List (List ℕ)) → parts [] ks ≡ []
  unfolding parts
  no_parts [] = refl
  no_parts (k ∷ ks) = no_parts ks

  parted : (names ks : List (List ℕ)) → IsStrictlySortedBy cmp ks → ((n : List ℕ) → Contains names n → Contains ks (key n)) → IsPermutation names (parts names ks)
  parted [] ks s h = subst (IsPermutation []) (sym (no_parts ks)) (IsPermutation-refl [])
  parted (x ∷ names) ks s h =
      IsPermutation-trans _ _ _ (IsPermutation-cons x names (parts names ks) (parted names ks s (λ n t. h n (there n x names t))))
      (one_more x names ks s (h x (here x names)))

-- ---- the folders of a package

files_in : (dir : List ℕ) (names ks : List (List ℕ)) → flat_map (λ (f : FolderListing). f.files) (map (folder_listing_by_tree_names dir names) ks) ≡ parts (λ n. folder_of (path_relative_to dir n)) names ks
unfolding parts has
files_in dir names [] = refl
files_in dir names (k ∷ ks) = ap (λ l. tree_names_in_package_folder dir names k ++ l) (files_in dir names ks)

pub each_in_one : (dir : List ℕ) (names : List (List ℕ)) → IsPermutation names (flat_map (λ (f : FolderListing). f.files) (folder_listings_by_tree_names dir names))
unfolding folder_listings_by_tree_names
each_in_one dir names =
    let paths = map (path_relative_to dir) names in
    let key : List ℕ → List ℕ = λ n. folder_of (path_relative_to dir n) in
    subst (IsPermutation names) (sym (files_in dir names (all_folders_above paths)))
    (parted key names (all_folders_above paths) (rising paths)
    (λ n t. folder_there paths (path_relative_to dir n) (key n) (mapped (path_relative_to dir) n names t) (in_folder (path_relative_to dir n))))

names_are : (dir : List ℕ) (names ks : List (List ℕ)) → map (λ (f : FolderListing). f.name) (map (folder_listing_by_tree_names dir names) ks) ≡ ks
names_are dir names [] = refl
names_are dir names (k ∷ ks) = ap (λ l. k ∷ l) (names_are dir names ks)

pub folders_rise : (dir : List ℕ) (names : List (List ℕ)) → IsStrictlySortedBy cmp (map (λ (f : FolderListing). f.name) (folder_listings_by_tree_names dir names))
unfolding folder_listings_by_tree_names
folders_rise dir names =
    subst (IsStrictlySortedBy cmp) (sym (names_are dir names (all_folders_above (map (path_relative_to dir) names)))) (rising (map (path_relative_to dir) names))
