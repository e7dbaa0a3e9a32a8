-- Where the folder of a path is there, each folder over the path is: adding them changes nothing.
use Rattle.std.proofs.Common.{◌≡◌, ◌⊎◌, inl, inr, ⊎_elim, ℕ, zero, suc, ◌+◌, ◌-◌, ◌<◌, Bool, true, false, not, if◌then◌else◌, List, [], ◌∷◌, ◌++◌, length, take, get_or, map, flat_map, Contains, Option, Some, None, is_some, refl, ap, sym, ◌∙◌, subst, arith, true≢false, append-nil, slice_get}
use Rattle.std.specs.List.{AllByRecursion}
use Rattle.std.specs.List.Sorted.{IsStrictlySortedBy}
use Rattle.std.specs.Ordering.{ordering_reverse}
use Rattle.std.specs.declared.cmp.Ordering.{Ordering}
use Rattle.std.specs.declared.cmp.Ordering.TheVariants.{Less, Equal, Greater}
use Rattle.std.proofs.lemmas.Cmp.{nat_list_cmp_total}
use Rattle.std.proofs.lemmas.List.{map_more, get_or-take, take-take, get_or_default, length-take-le}
use Rattle.std.proofs.lemmas.List.Concat.{flat_map-append}
use Rattle.std.proofs.lemmas.Option.{get_or_from_slice_get, slice_get_within}
use Rattle.std.proofs.lemmas.Slice.Eq.{bytes_eq-Decides}
use borrow.Author.Tests.{eq-eqb}
use Rattle.package_files.specs.Folders.{all_folders_above, prefixes_before_slashes, folder_of, folders_above, is_slash, path_relative_to, prefixes_before_slashes_of_byte_and_rest, with_folder_inserted, sorted_folders_with_names_inserted}
use Rattle.package_files.specs.BorrowedNames.{IsIndexOf}
use Rattle.package_files.proofs.FolderLemmas.{all_placed_append, cmp, placed_as, turned}
use Rattle.package_files.proofs.PlaceLemmas.{Tri, tri}
use Rattle.package_files.proofs.FolderLaws.{IsStart, before_slash, either, folder_over, folder_there, here, mapped, none_in, of_start, rising, start_of, there}

-- ---- a folder that is there

same_bytes_equal : (x : List ℕ) → cmp x x ≡ Equal
same_bytes_equal x = by (cmp x x) (nat_list_cmp_total.antisymm x x)
  where
    by : (o : Ordering) → o ≡ ordering_reverse o → o ≡ Equal
    by Less e = absurd (cc)
    by Equal e = refl
    by Greater e = absurd (cc)

of_all : (P : List ℕ → Type 0) (x : List ℕ) (ys : List (List ℕ)) → AllByRecursion P ys → Contains ys x → P x
of_all P x [] all h = absurd (none_in x h)
of_all P x (y ∷ ys) all h = ⊎_elim (λ e. subst P e all.0) (of_all P x ys all.1) (either x y ys h)

folder_kept : (x : List ℕ) (ys : List (List ℕ)) → IsStrictlySortedBy cmp ys → Contains ys x → with_folder_inserted x ys ≡ ys
unfolding IsStrictlySortedBy
folder_kept x [] s h = absurd (none_in x h)
folder_kept x (y ∷ ys) s h = by (folder_kept x ys s.1) (either x y ys h)
  where
    by : (Contains ys x → with_folder_inserted x ys ≡ ys) → (y ≡ x) ⊎ Contains ys x → with_folder_inserted x (y ∷ ys) ≡ y ∷ ys
    by further (inl e) = placed_as Equal x y ys (ap (cmp x) e ∙ same_bytes_equal x)
    by further (inr t) =
        placed_as Greater x y ys (turned y x Less (of_all (λ z. cmp y z ≡ Less) x ys s.0 t)) ∙ ap (λ (l : List (List ℕ)). y ∷ l) (further t)

folders_kept : (ys names : List (List ℕ)) → IsStrictlySortedBy cmp ys → ((z : List ℕ) → Contains names z → Contains ys z) → sorted_folders_with_names_inserted ys names ≡ ys
folders_kept ys [] s h = refl
folders_kept ys (x ∷ xs) s h =
    ap (λ (l : List (List ℕ)). sorted_folders_with_names_inserted l xs) (folder_kept x ys s (h x (here x xs)))
    ∙ folders_kept ys xs s (λ z t. h z (there z x xs t))

-- ---- the folders over a path that begins with a byte

root_first : (b : ℕ) (folders : List (List ℕ)) → is_slash b ≡ true → Contains (prefixes_before_slashes_of_byte_and_rest b folders) []
root_first b folders e = subst (λ (c : Bool). Contains (if c then [] ∷ map (λ folder. b ∷ folder) folders else map (λ folder. b ∷ folder) folders) []) (sym e) (here [] (map (λ folder. b ∷ folder) folders))

further_in : (b : ℕ) (folder : List ℕ) (folders : List (List ℕ)) → Contains folders folder → Contains (prefixes_before_slashes_of_byte_and_rest b folders) (b ∷ folder)
further_in b folder folders h = by (is_slash b) (mapped (λ f. b ∷ f) folder folders h)
  where
    by : (c : Bool) → Contains (map (λ f. b ∷ f) folders) (b ∷ folder) → Contains (if c then [] ∷ map (λ f. b ∷ f) folders else map (λ f. b ∷ f) folders) (b ∷ folder)
    by true t = there (b ∷ folder) [] (map (λ f. b ∷ f) folders) t
    by false t = t

abbrev Further : ℕ → List (List ℕ) → List ℕ → Type 0
Further b folders z = (folder : List ℕ) × Contains folders folder × (b ∷ folder ≡ z)

from_further : (b : ℕ) (folders : List (List ℕ)) (z : List ℕ) → Contains (map (λ f. b ∷ f) folders) z → Further b folders z
from_further b [] z h = absurd (none_in z h)
from_further b (f ∷ fs) z h = by (from_further b fs z) (either z (b ∷ f) (map (λ f. b ∷ f) fs) h)
  where
    by : (Contains (map (λ f. b ∷ f) fs) z → Further b fs z) → (b ∷ f ≡ z) ⊎ Contains (map (λ f. b ∷ f) fs) z → Further b (f ∷ fs) z
    by more (inl e) = (f, here f fs, e)
    by more (inr t) = let w = more t in (w.0, there w.0 f fs w.1, w.2)

root_or_further : (b : ℕ) (folders : List (List ℕ)) (z : List ℕ) → Contains (prefixes_before_slashes_of_byte_and_rest b folders) z → ((is_slash b ≡ true) × ([] ≡ z)) ⊎ Further b folders z
root_or_further b folders z h = by (is_slash b) refl h
  where
    by : (c : Bool) → is_slash b ≡ c → Contains (if c then [] ∷ map (λ f. b ∷ f) folders else map (λ f. b ∷ f) folders) z → ((is_slash b ≡ true) × ([] ≡ z)) ⊎ Further b folders z
    by true e t = ⊎_elim (λ first. inl (e, first)) (λ more. inr (from_further b folders z more)) (either z [] (map (λ f. b ∷ f) folders) t)
    by false e t = inr (from_further b folders z t)

-- what is over a folder over a path is over the path
over_over : (path folder z : List ℕ) → Contains (prefixes_before_slashes path) folder → Contains (prefixes_before_slashes folder) z → Contains (prefixes_before_slashes path) z
over_over [] folder z h g = absurd (none_in folder h)
over_over (b ∷ bs) folder z h g = by (over_over bs) (root_or_further b (prefixes_before_slashes bs) folder h)
  where
    inside : (f : List ℕ) → ((w : List ℕ) → Contains (prefixes_before_slashes f) w → Contains (prefixes_before_slashes bs) w)
        → ((is_slash b ≡ true) × ([] ≡ z)) ⊎ Further b (prefixes_before_slashes f) z → Contains (prefixes_before_slashes (b ∷ bs)) z
    inside f deeper (inl first) = subst (Contains (prefixes_before_slashes (b ∷ bs))) first.1 (root_first b (prefixes_before_slashes bs) first.0)
    inside f deeper (inr more) = subst (Contains (prefixes_before_slashes (b ∷ bs))) more.2 (further_in b more.0 (prefixes_before_slashes bs) (deeper more.0 more.1))

    by : ((f w : List ℕ) → Contains (prefixes_before_slashes bs) f → Contains (prefixes_before_slashes f) w → Contains (prefixes_before_slashes bs) w)
        → ((is_slash b ≡ true) × ([] ≡ folder)) ⊎ Further b (prefixes_before_slashes bs) folder → Contains (prefixes_before_slashes (b ∷ bs)) z
    by rest (inl first) = absurd (none_in z (subst (λ f. Contains (prefixes_before_slashes f) z) (sym first.1) g))
    by rest (inr more) = inside more.0 (λ w. rest more.0 w more.1) (root_or_further b (prefixes_before_slashes more.0) z (subst (λ f. Contains (prefixes_before_slashes f) z) (sym more.2) g))

-- a folder over a path ends where a slash stands
abbrev EndsAtSlash : List ℕ → List ℕ → Type 0
EndsAtSlash path z = (i : ℕ) × (i < length path) × (is_slash (get_or path i 0) ≡ true) × (take i path ≡ z)

ends_at_slash : (path z : List ℕ) → Contains (prefixes_before_slashes path) z → EndsAtSlash path z
ends_at_slash [] z h = absurd (none_in z h)
ends_at_slash (b ∷ bs) z h = by (ends_at_slash bs) (root_or_further b (prefixes_before_slashes bs) z h)
  where
    by : ((f : List ℕ) → Contains (prefixes_before_slashes bs) f → EndsAtSlash bs f) → ((is_slash b ≡ true) × ([] ≡ z)) ⊎ Further b (prefixes_before_slashes bs) z → EndsAtSlash (b ∷ bs) z
    by f (inl first) = (zero, omega arith, first.0, first.1)
    by f (inr more) = let w = f more.0 more.1 in let lt = w.1 in (suc w.0, omega arith, w.2, ap (λ (l : List ℕ). b ∷ l) w.3 ∙ more.2)

-- ---- the folder of a path

-- what is over a path is its folder, or is over it
own_or_over : (path z : List ℕ) → Contains (prefixes_before_slashes path) z → (folder_of path ≡ z) ⊎ Contains (prefixes_before_slashes (folder_of path)) z
own_or_over path z h = by start.0 start.1 ends.0 ends.1 ends.2 ends.3
  where
    start : (m : ℕ) × IsStart path m
    start = start_of path (length path) (omega arith) (λ k lo hi. absurd (omega arith))

    ends : EndsAtSlash path z
    ends = ends_at_slash path z h

    by : (m : ℕ) → IsStart path m → (i : ℕ) → i < length path → is_slash (get_or path i 0) ≡ true → take i path ≡ z
        → (folder_of path ≡ z) ⊎ Contains (prefixes_before_slashes (folder_of path)) z
    by m s i lt e is = place (tri i (m - 1))
      where
        place : Tri i (m - 1) → (folder_of path ≡ z) ⊎ Contains (prefixes_before_slashes (folder_of path)) z
        place (inl below) =
            let le = s.within in
            let long : length (take (m - 1) path) ≡ m - 1 = length-take-le (m - 1) path (omega arith) in
            let cut : Contains (prefixes_before_slashes (take (m - 1) path)) (take i (take (m - 1) path)) =
            before_slash (take (m - 1) path) i (omega arith) (ap is_slash (get_or-take (m - 1) path i 0 below) ∙ e) in
            let over : Contains (prefixes_before_slashes (folder_of path)) (take i (take (m - 1) path)) =
            subst (λ f. Contains (prefixes_before_slashes f) (take i (take (m - 1) path))) (sym (of_start path m s)) cut in
            inr (subst (Contains (prefixes_before_slashes (folder_of path))) (take-take i (m - 1) path (omega arith) ∙ is) over)
        place (inr (inl last)) = inl (of_start path m s ∙ ap (λ n. take n path) (sym last) ∙ is)
        place (inr (inr more)) = absurd (true≢false (sym (s.passes i (omega arith) lt) ∙ ap not e))

-- a path that has the folder of another above it has all folders over that other above it
over_both : (path other z : List ℕ) → Contains (folders_above other) (folder_of path) → Contains (folders_above path) z → Contains (folders_above other) z
over_both path other z h g = by (either z [] (prefixes_before_slashes path) g)
  where
    deeper : Contains (prefixes_before_slashes (folder_of path)) z → ([] ≡ folder_of path) ⊎ Contains (prefixes_before_slashes other) (folder_of path) → Contains (folders_above other) z
    deeper t (inl root) = absurd (none_in z (subst (λ f. Contains (prefixes_before_slashes f) z) (sym root) t))
    deeper t (inr f) = there z [] (prefixes_before_slashes other) (over_over other (folder_of path) z f t)

    own : (folder_of path ≡ z) ⊎ Contains (prefixes_before_slashes (folder_of path)) z → Contains (folders_above other) z
    own (inl e) = subst (Contains (folders_above other)) e h
    own (inr t) = deeper t (either (folder_of path) [] (prefixes_before_slashes other) h)

    by : ([] ≡ z) ⊎ Contains (prefixes_before_slashes path) z → Contains (folders_above other) z
    by (inl root) = subst (Contains (folders_above other)) root (here [] (prefixes_before_slashes other))
    by (inr t) = own (own_or_over path z t)

-- where the folder of a path is a folder of the package, so is each folder over the path
all_over_there : (paths : List (List ℕ)) (path z : List ℕ) → Contains (all_folders_above paths) (folder_of path) → Contains (folders_above path) z → Contains (all_folders_above paths) z
all_over_there paths path z h g =
    let (k, other, l, e, t) = folder_over paths (folder_of path) h in
    folder_there paths other z (k, l, e) (over_both path other z t g)

-- ---- one more name

found_there : (folders : List (List ℕ)) (folder : List ℕ) (o : Option ℕ) → IsIndexOf folder folders o → is_some o ≡ true → Contains folders folder
found_there folders folder None h e = absurd (true≢false (sym e))
found_there folders folder (Some at) h e =
    let same : folder ≡ get_or folders at [] = (bytes_eq-Decides folder (get_or folders at [])).0 (h.1 at h.0 ∙ eq-eqb at at refl) in
    (at, h.0, get_or_default folders at folder [] h.0 ∙ sym same)

abbrev names_upto : List ℕ → List (List ℕ) → ℕ → List (List ℕ)
names_upto dir names i = all_folders_above (map (path_relative_to dir) (take i names))

next_names : (dir : List ℕ) (names : List (List ℕ)) (i : ℕ) (name : List ℕ) → slice_get names i ≡ Some name
    → names_upto dir names (i + 1) ≡ sorted_folders_with_names_inserted (names_upto dir names i) (folders_above (path_relative_to dir name))
next_names dir names i name at =
    let paths = map (path_relative_to dir) (take i names) in
    let more : map (path_relative_to dir) (take (i + 1) names) ≡ paths ++ path_relative_to dir name ∷ [] =
    map_more (path_relative_to dir) names i [] (slice_get_within names i name at)
    ∙ ap (λ n. paths ++ path_relative_to dir n ∷ []) (get_or_from_slice_get names i name [] at) in
    ap all_folders_above more
    ∙ ap (sorted_folders_with_names_inserted []) (flat_map-append folders_above paths (path_relative_to dir name ∷ []))
    ∙ all_placed_append [] (flat_map folders_above paths) (folders_above (path_relative_to dir name) ++ [])
    ∙ ap (sorted_folders_with_names_inserted (all_folders_above paths)) (append-nil (folders_above (path_relative_to dir name)))

pub added_next : (dir : List ℕ) (names before later : List (List ℕ)) (i : ℕ) (name path : List ℕ) → slice_get names i ≡ Some name → path ≡ path_relative_to dir name
    → before ≡ names_upto dir names i → later ≡ sorted_folders_with_names_inserted before (folders_above path) → later ≡ names_upto dir names (i + 1)
added_next dir names before later i name path at is so_far added =
    added ∙ ap (λ l. sorted_folders_with_names_inserted l (folders_above path)) so_far
    ∙ ap (λ p. sorted_folders_with_names_inserted (names_upto dir names i) (folders_above p)) is ∙ sym (next_names dir names i name at)

pub kept_next : (dir : List ℕ) (names before later : List (List ℕ)) (i : ℕ) (name path folder : List ℕ) (o : Option ℕ) → slice_get names i ≡ Some name → path ≡ path_relative_to dir name
    → before ≡ names_upto dir names i → folder ≡ folder_of path → IsIndexOf folder before o → is_some o ≡ true → later ≡ before → later ≡ names_upto dir names (i + 1)
kept_next dir names before later i name path folder o at is so_far own index some same =
    let paths = map (path_relative_to dir) (take i names) in
    let found : Contains before folder = found_there before folder o index some in
    let in_names : Contains (all_folders_above paths) folder = subst (λ l. Contains l folder) so_far found in
    let of_path : Contains (all_folders_above paths) (folder_of (path_relative_to dir name)) = subst (Contains (all_folders_above paths)) (own ∙ ap folder_of is) in_names in
    same ∙ so_far
    ∙ sym (folders_kept (all_folders_above paths) (folders_above (path_relative_to dir name)) (rising paths) (λ z t. all_over_there paths (path_relative_to dir name) z of_path t))
    ∙ sym (next_names dir names i name at)
