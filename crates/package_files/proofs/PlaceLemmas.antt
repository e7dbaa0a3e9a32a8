-- Where a folder is found among others, and what one more file adds to the folders' lists.
use Rattle.std.proofs.Common.{◌≡◌, ℕ, zero, suc, ◌+◌, ◌<◌, ◌⊎◌, inl, inr, ◌==◌, Bool, false, List, [], ◌∷◌, ◌++◌, length, take, get_or, set, map, replicate, refl, sym, ap, ◌∙◌, subst, arith, if◌then◌else◌, Bor, Result, Ok, Err, Option, Some, None, append-nil, slice_get}
use Rattle.std.proofs.lemmas.List.{take_more, length-map, get_or-map}
use Rattle.std.proofs.lemmas.List.Elements.{filter-append}
use Rattle.std.proofs.lemmas.Map.Text.{is_eq-slice_cmp}
use Rattle.std.proofs.lemmas.Map.Lookups.{exact_bytes}
use borrow.Author.Tests.{ne_eqb, eq-eqb}
use Rattle.std.specs.List.{AllWithin, AllByRecursion, filter}
use Rattle.std.specs.List.Sorted.{IsStrictlySortedBy, IsBinarySearchResult, IsSearchInRange}
use Rattle.std.specs.Ordering.{ordering_reverse, is_eq}
use Rattle.std.specs.Result.{result_ok}
use Rattle.std.specs.Str.{bytes_eq}
use Rattle.std.specs.declared.cmp.Ordering.{Ordering}
use Rattle.std.specs.declared.cmp.Ordering.TheVariants.{Less, Greater}
use Rattle.std.proofs.lemmas.Option.{get_or_from_slice_get, slice_get_within}
use Rattle.base_core.proofs.AtName.{own_name}
use Rattle.package_files.specs.Folders.{folder_of, path_relative_to, tree_names_in_package_folder}
use Rattle.package_files.specs.BorrowedNames.{IsIndexOf}
use Rattle.package_files.proofs.FolderLemmas.{cmp, turned, against, searchable}

abbrev names_of : List (Bor (List ℕ)) → List (List ℕ)
names_of xs = map (λ name. name.now) xs

pub differs : (x y : List ℕ) (o : Ordering) → cmp y x ≡ o → bytes_eq x y ≡ is_eq (ordering_reverse o)
differs x y o e = sym (is_eq-slice_cmp x y) ∙ ap is_eq (turned y x o e)

at_all : (P : List ℕ → Type 0) (ns : List (List ℕ)) (k : ℕ) → AllByRecursion P ns → k < length ns → P (get_or ns k [])
at_all P [] k h lt = absurd (omega arith)
at_all P (n ∷ ns) zero h lt = h.0
at_all P (n ∷ ns) (suc k) h lt = at_all P ns k h.1 (omega arith)

in_turn : (ns : List (List ℕ)) (j k : ℕ) → j < k → k < length ns → IsStrictlySortedBy cmp ns → cmp (get_or ns j []) (get_or ns k []) ≡ Less
unfolding IsStrictlySortedBy
in_turn [] j k jk kn h = absurd (omega arith)
in_turn (n ∷ ns) j zero jk kn h = absurd (omega arith)
in_turn (n ∷ ns) zero (suc k) jk kn h = at_all (λ z. cmp n z ≡ Less) ns k h.0 (omega arith)
in_turn (n ∷ ns) (suc j) (suc k) jk kn h = in_turn ns j k (omega arith) (omega arith) h.1

abbrev pub Tri : ℕ → ℕ → Type 0
Tri j k = (j < k) ⊎ ((j ≡ k) ⊎ (k < j))

tri_more : (j k : ℕ) → Tri j k → Tri (suc j) (suc k)
tri_more j k (inl lt) = inl (omega arith)
tri_more j k (inr (inl e)) = inr (inl (ap suc e))
tri_more j k (inr (inr lt)) = inr (inr (omega arith))

pub tri : (j k : ℕ) → Tri j k
tri zero zero = inr (inl refl)
tri zero (suc k) = inl (omega arith)
tri (suc j) zero = inr (inr (omega arith))
tri (suc j) (suc k) = tri_more j k (tri j k)

-- of names in order just the one at i is equal to itself
only_there : (ns : List (List ℕ)) (i k : ℕ) → i < length ns → k < length ns → IsStrictlySortedBy cmp ns → Tri k i
    → bytes_eq (get_or ns i []) (get_or ns k []) ≡ (k == i)
only_there ns i k hi hk sorted (inl lt) =
    differs (get_or ns i []) (get_or ns k []) Less (in_turn ns k i lt hi sorted) ∙ sym (ne_eqb k i (omega arith))
only_there ns i k hi hk sorted (inr (inl e)) =
    ap (λ (j : ℕ). bytes_eq (get_or ns i []) (get_or ns j [])) e ∙ own_name (get_or ns i []) ∙ sym (eq-eqb k i e)
only_there ns i k hi hk sorted (inr (inr lt)) =
    differs (get_or ns i []) (get_or ns k []) Greater (turned (get_or ns i []) (get_or ns k []) Less (in_turn ns i k lt hk sorted)) ∙ sym (ne_eqb k i (omega arith))

abbrev Found : List ℕ → List (List ℕ) → Result ℕ ℕ → Type 0
Found x ns r = IsIndexOf x ns (result_ok r)

pub found_place : (xs : List (Bor (List ℕ))) (x : Bor (List ℕ)) (r : Result ℕ ℕ) → IsStrictlySortedBy cmp (names_of xs)
    → IsSearchInRange r (length xs) → IsBinarySearchResult (against x.now) xs r → Found x.now (names_of xs) r
found_place xs x (Ok i) sorted bound there =
    let e : get_or (names_of xs) i [] ≡ x.now = get_or-map (λ name. name.now) xs i x [] bound ∙ exact_bytes _ _ (there x) in
    let long : length (names_of xs) ≡ length xs = length-map xs (λ name. name.now) in
    (omega arith, λ k lt. ap (λ (y : List ℕ). bytes_eq y (get_or (names_of xs) k [])) (sym e) ∙ only_there (names_of xs) i k (omega arith) lt sorted (tri k i))
found_place xs x (Err i) sorted bound there =
    let parts = there (searchable (λ name. name.now) xs x.now sorted) in
    let long : length (names_of xs) ≡ length xs = length-map xs (λ name. name.now) in
    λ k lt. let within : k < length xs = omega arith in ap (bytes_eq x.now) (get_or-map (λ name. name.now) xs k x [] within) ∙ apart k within (tri k i) parts
  where
    apart : (k : ℕ) → k < length xs → Tri k i → AllWithin (λ y. against x.now y ≡ Less) xs 0 i × AllWithin (λ y. against x.now y ≡ Greater) xs i (length xs) → bytes_eq x.now (get_or xs k x).now ≡ false
    apart k lt (inl h) p = differs x.now (get_or xs k x).now Less (p.0 k x (omega arith) h)
    apart k lt (inr (inl h)) p = differs x.now (get_or xs k x).now Greater (p.1 k x (omega arith) lt)
    apart k lt (inr (inr h)) p = differs x.now (get_or xs k x).now Greater (p.1 k x (omega arith) lt)

pub place_in : (ds xs : List (Bor (List ℕ))) (x : Bor (List ℕ)) (r : Result ℕ ℕ) → ds ≡ xs → IsStrictlySortedBy cmp (names_of xs)
    → IsSearchInRange r (length ds) → IsBinarySearchResult (against x.now) ds r → Found x.now (names_of xs) r
place_in ds xs x r e sorted bound there =
    let P : List (Bor (List ℕ)) → Type 0 = λ l. IsSearchInRange r (length l) in
    let Q : List (Bor (List ℕ)) → Type 0 = λ l. IsBinarySearchResult (against x.now) l r in
    found_place xs x r sorted (subst P e bound) (subst Q e there)

-- ---- one more file

abbrev of_folder : List ℕ → List ℕ → List ℕ → Bool
of_folder dir name folder = bytes_eq (folder_of (path_relative_to dir name)) folder

abbrev if_there : Bool → List ℕ → List (List ℕ)
if_there b name = if b then name ∷ [] else []

filter_one : (p : List ℕ → Bool) (name : List ℕ) (b : Bool) → p name ≡ b → filter p (name ∷ []) ≡ if_there b name
filter_one p name b e = ap (λ (c : Bool). if_there c name) e

file_next : (dir : List ℕ) (names : List (List ℕ)) (i : ℕ) (name : List ℕ) (folder : List ℕ) (b : Bool) → slice_get names i ≡ Some name
    → of_folder dir name folder ≡ b → tree_names_in_package_folder dir (take (i + 1) names) folder ≡ tree_names_in_package_folder dir (take i names) folder ++ if_there b name
file_next dir names i name folder b here is =
    let lt : i < length names = slice_get_within names i name here in
    let p : List ℕ → Bool = λ n. of_folder dir n folder in
    ap (filter p) (take_more names i [] lt ∙ ap (λ (n : List ℕ). take i names ++ n ∷ []) (get_or_from_slice_get names i name [] here))
    ∙ filter-append p (take i names) (name ∷ []) ∙ ap (λ (l : List (List ℕ)). tree_names_in_package_folder dir (take i names) folder ++ l) (filter_one p name b is)

module _ {V : Type 0} (shown : V → List (List ℕ)) (old new : List ℕ → List (List ℕ)) where
  -- where the new list of each folder is the old one
  pub same_lists : (vs : List V) (folders : List (List ℕ)) → map shown vs ≡ map old folders
      → ((k : ℕ) → k < length folders → new (get_or folders k []) ≡ old (get_or folders k [])) → map shown vs ≡ map new folders
  same_lists vs folders e h = e ∙ sym (pointwise_same folders h)
    where
      pointwise_same : (fs : List (List ℕ)) → ((k : ℕ) → k < length fs → new (get_or fs k []) ≡ old (get_or fs k [])) → map new fs ≡ map old fs
      pointwise_same [] h = refl
      pointwise_same (f ∷ fs) h = λ j. h 0 (omega arith) j ∷ pointwise_same fs (λ k lt. h (suc k) (omega arith)) j

suc_eq : (j k : ℕ) → (suc j == suc k) ≡ (j == k)
suc_eq j k = by (tri j k)
  where
    by : Tri j k → (suc j == suc k) ≡ (j == k)
    by (inl lt) = ne_eqb (suc j) (suc k) (omega arith) ∙ sym (ne_eqb j k (omega arith))
    by (inr (inl e)) = eq-eqb (suc j) (suc k) (ap suc e) ∙ sym (eq-eqb j k e)
    by (inr (inr lt)) = ne_eqb (suc j) (suc k) (omega arith) ∙ sym (ne_eqb j k (omega arith))

module _ {V : Type 0} (shown : V → List (List ℕ)) where
  abbrev Grows : (List ℕ → List (List ℕ)) → (List ℕ → List (List ℕ)) → List (List ℕ) → ℕ → List ℕ → Type 0
  Grows old new folders at name = (k : ℕ) → k < length folders → new (get_or folders k []) ≡ old (get_or folders k []) ++ if_there (k == at) name

  not_there : (xs : List (List ℕ)) (b : Bool) (name : List ℕ) → b ≡ false → xs ++ if_there b name ≡ xs
  not_there xs b name e = ap (λ (c : Bool). xs ++ if_there c name) e ∙ append-nil xs

  -- the list of the folder at a place has one more name
  pub grown_list : (old new : List ℕ → List (List ℕ)) (vs : List V) (folders : List (List ℕ)) (at : ℕ) (v d : V) (name : List ℕ)
      → map shown vs ≡ map old folders → at < length folders → Grows old new folders at name
      → shown v ≡ shown (get_or vs at d) ++ name ∷ [] → map shown (set vs at v) ≡ map new folders
  grown_list old new [] [] at v d name e lt grows more = absurd (omega arith)
  grown_list old new (u ∷ us) [] at v d name e lt grows more = absurd (omega arith)
  grown_list old new [] (f ∷ fs) at v d name e lt grows more = absurd (cc)
  grown_list old new (u ∷ us) (f ∷ fs) zero v d name e lt grows more =
      let head : shown u ≡ old f = cc in
      let tail : map shown us ≡ map old fs = cc in
      let here : shown v ≡ new f = more ∙ ap (λ (l : List (List ℕ)). l ++ name ∷ []) head ∙ sym (grows 0 (omega arith)) in
      let rest : map shown us ≡ map new fs = same_lists shown old new us fs tail (λ k h. grows (suc k) (omega arith) ∙ not_there (old (get_or fs k [])) (suc k == 0) name (ne_eqb (suc k) 0 (omega arith))) in
      cc
  grown_list old new (u ∷ us) (f ∷ fs) (suc at) v d name e lt grows more =
      let head : shown u ≡ old f = cc in
      let tail : map shown us ≡ map old fs = cc in
      let here : shown u ≡ new f = head ∙ sym (grows 0 (omega arith) ∙ not_there (old f) (0 == suc at) name (ne_eqb 0 (suc at) (omega arith))) in
      let rest : map shown (set us at v) ≡ map new fs =
      grown_list old new us fs at v d name tail (omega arith)
      (λ k h. grows (suc k) (omega arith) ∙ ap (λ (b : Bool). old (get_or fs k []) ++ if_there b name) (suc_eq k at)) more in
      cc

-- no list has it
pub kept_lists : {V : Type 0} (shown : V → List (List ℕ)) (old new : List ℕ → List (List ℕ)) (vs : List V) (folders : List (List ℕ)) (name : List ℕ)
    → map shown vs ≡ map old folders → ((k : ℕ) → k < length folders → new (get_or folders k []) ≡ old (get_or folders k []) ++ if_there false name)
    → map shown vs ≡ map new folders
kept_lists shown old new vs folders name e h = same_lists shown old new vs folders e (λ k lt. h k lt ∙ append-nil (old (get_or folders k [])))

abbrev Place : List ℕ → List (List ℕ) → List ℕ → Option ℕ → Type 0
Place dir folders name o = IsIndexOf (folder_of (path_relative_to dir name)) folders o

pub place_grows : (dir : List ℕ) (names folders : List (List ℕ)) (i at : ℕ) (name : List ℕ) → slice_get names i ≡ Some name → Place dir folders name (Some at)
    → (k : ℕ) → k < length folders → tree_names_in_package_folder dir (take (i + 1) names) (get_or folders k []) ≡ tree_names_in_package_folder dir (take i names) (get_or folders k []) ++ if_there (k == at) name
place_grows dir names folders i at name here place k lt = file_next dir names i name (get_or folders k []) (k == at) here (place.1 k lt)

pub place_keeps : (dir : List ℕ) (names folders : List (List ℕ)) (i : ℕ) (name : List ℕ) → slice_get names i ≡ Some name → Place dir folders name None
    → (k : ℕ) → k < length folders → tree_names_in_package_folder dir (take (i + 1) names) (get_or folders k []) ≡ tree_names_in_package_folder dir (take i names) (get_or folders k []) ++ if_there false name
place_keeps dir names folders i name here place k lt = file_next dir names i name (get_or folders k []) false here (place k lt)

pub no_files : (dir : List ℕ) (folders : List (List ℕ)) → replicate (length folders) [] ≡ map (tree_names_in_package_folder dir []) folders
no_files dir [] = refl
no_files dir (f ∷ fs) = ap (λ (l : List (List (List ℕ))). [] ∷ l) (no_files dir fs)
