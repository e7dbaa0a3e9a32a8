-- Paths in byte order, and whether a name is one of them.
use Rattle.std.proofs.Common.{◌≡◌, ⊎_elim, ℕ, ◌+◌, ◌<◌, true, false, List, [], ◌∷◌, length, get_or, map, Result, Ok, Err, refl, sym, ap, subst, ◌∙◌, arith, is_ok}
use Rattle.std.specs.Prelude.{bytes_eq}
use Rattle.std.specs.List.{All, Contains, HoldsAt, list_any}
use Rattle.std.specs.List.Sorted.{IsBinarySearchResult, IsPartitionPoint, IsSearchInRange, IsSorted, IsSortedBy}
use Rattle.std.specs.Ordering.{is_eq, is_lt, ordering_reverse}
use Rattle.std.specs.declared.cmp.Ordering.{Ordering}
use Rattle.std.specs.declared.cmp.Ordering.TheVariants.{Less, Equal, Greater}
use Rattle.std.specs.Cmp.Lexicographic.{bytes_decides}
use Rattle.std.proofs.lemmas.Bool.{cases_lt, true≢false}
use Rattle.std.proofs.lemmas.Cmp.{nat_list_cmp_total}
use Rattle.std.proofs.lemmas.List.{get_or-map, length-map}
use Rattle.std.proofs.lemmas.List.Folds.{list_any_at, list_any_none}
use Rattle.std.proofs.lemmas.List.Sorted.{searchable_from_sorted}
use Rattle.std.proofs.lemmas.Map.Text.{is_eq-slice_cmp}
use Rattle.std.proofs.lemmas.Map.Views.{Contains-from_any}
use Rattle.adb_fields.specs.JoinedPath.{joined_path}
use Rattle.adb_fields.specs.declared.file_path.FilePath.{FilePath}
use Rattle.base_core.specs.Name.{IsName, is_name}
use Rattle.base_core.specs.ByteOrder.{bytes_cmp}
use Rattle.path_clashes.specs.WrittenPaths.{is_one_of_paths}

-- ---- a path has a place

pub place_of : (names : List (List ℕ)) (name : List ℕ) → list_any (bytes_eq name) names ≡ true → Contains names name
place_of names name any = Contains-from_any {eq = bytes_eq} (λ x y same. (bytes_decides x y).0 same) name names any

pub is_at : (names : List (List ℕ)) (k : ℕ) (d : List ℕ) → k < length names → list_any (bytes_eq (get_or names k d)) names ≡ true
is_at names k d within = list_any_at (bytes_eq (get_or names k d)) names k d within ((bytes_decides (get_or names k d) (get_or names k d)).1 refl)

pub path_is_name : (paths : List FilePath) (name : List ℕ) → All IsName (map joined_path paths) → is_one_of_paths paths name ≡ true → IsName name
path_is_name paths name names any =
    let at = place_of (map joined_path paths) name any in
    subst IsName at.2 (names at.0 name at.1)

pub no_empty_name : IsName [] → ⊥
unfolding is_name
no_empty_name h = true≢false (sym h)

-- ---- the binary search

path_at : (paths : List FilePath) (k : ℕ) (d : FilePath) (e : List ℕ) → k < length paths → get_or (map joined_path paths) k e ≡ joined_path (get_or paths k d)
path_at paths k d e within = get_or-map joined_path paths k d e within

pub long : (paths : List FilePath) → length (map joined_path paths) ≡ length paths
long paths = length-map paths joined_path

by_paths : (paths : List FilePath) → IsSorted bytes_cmp (map joined_path paths) → IsSortedBy (λ (a b : FilePath). is_lt (bytes_cmp (joined_path a) (joined_path b))) paths
by_paths paths up k d low high =
    let below : k < length paths = omega arith in
    (λ i. is_lt (bytes_cmp (sym (path_at paths (k + 1) d (joined_path d) high) i) (sym (path_at paths k d (joined_path d) below) i)))
    ∙ up k (joined_path d) low (omega (arith, high, long paths))

pub path_here : (paths : List FilePath) (k : ℕ) (d : FilePath) (name : List ℕ) → k < length paths → name ≡ joined_path (get_or paths k d) → (e : List ℕ) → get_or (map joined_path paths) k e ≡ name
path_here paths k d name within is e = path_at paths k d e within ∙ sym is

pub path_counts : (paths : List FilePath) (k : ℕ) (d : FilePath) (name : List ℕ) → k < length paths → name ≡ joined_path (get_or paths k d) → is_one_of_paths paths name ≡ true
path_counts paths k d name within is =
    subst (λ (l : List ℕ). is_one_of_paths paths l ≡ true) (path_here paths k d name within is []) (is_at (map joined_path paths) k [] (omega (arith, within, long paths)))

-- the order from the other side
eq_by : (a name : List ℕ) (o : Ordering) → bytes_cmp a name ≡ o → bytes_eq name a ≡ is_eq (ordering_reverse o)
eq_by a name o is = sym (is_eq-slice_cmp name a) ∙ ap is_eq (nat_list_cmp_total.antisymm name a ∙ ap ordering_reverse is)

found_at : (paths : List FilePath) (name : List ℕ) (i : ℕ) → i < length paths → HoldsAt (λ (p : FilePath). bytes_cmp (joined_path p) name ≡ Equal) paths i → is_one_of_paths paths name ≡ true
found_at [] name i within here = absurd (omega arith)
found_at (p ∷ paths) name i within here =
    list_any_at (bytes_eq name) (map joined_path (p ∷ paths)) i name (omega (arith, within, long (p ∷ paths)))
    (ap (bytes_eq name) (path_at (p ∷ paths) i p name within) ∙ eq_by (joined_path (get_or (p ∷ paths) i p)) name Equal (here p))

found_nowhere : (paths : List FilePath) (name : List ℕ) (i : ℕ) → IsPartitionPoint (λ (p : FilePath). bytes_cmp (joined_path p) name ≡ Less) (λ (p : FilePath). bytes_cmp (joined_path p) name ≡ Greater) paths i → is_one_of_paths paths name ≡ false
found_nowhere [] name i point = refl
found_nowhere (p ∷ paths) name i point = list_any_none (bytes_eq name) (map joined_path (p ∷ paths)) each
  where
    each : All (λ x. bytes_eq name x ≡ false) (map joined_path (p ∷ paths))
    each k d within =
        let inside : k < length (p ∷ paths) = omega (arith, within, long (p ∷ paths)) in
        ap (bytes_eq name) (path_at (p ∷ paths) k p d inside)
        ∙ ⊎_elim (λ early. eq_by (joined_path (get_or (p ∷ paths) k p)) name Less (point.0 k p (omega arith) early)) (λ late. eq_by (joined_path (get_or (p ∷ paths) k p)) name Greater (point.1 k p late inside))
        (cases_lt k i)

pub searched_paths : (paths : List FilePath) (name : List ℕ) (r : Result ℕ ℕ) → IsSorted bytes_cmp (map joined_path paths) → IsSearchInRange r (length paths)
    → IsBinarySearchResult (λ (p : FilePath). bytes_cmp (joined_path p) name) paths r → is_ok r ≡ is_one_of_paths paths name
searched_paths paths name (Ok i) up bound found = sym (found_at paths name i bound found)
searched_paths paths name (Err i) up bound found =
    sym (found_nowhere paths name i (found (searchable_from_sorted nat_list_cmp_total joined_path paths name (by_paths paths up))))
