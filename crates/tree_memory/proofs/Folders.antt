-- Names below folders, and where a table has them.
use Rattle.std.proofs.Common.{◌≡◌, ◌≢◌, ⊎_elim, ℕ, ◌+◌, ◌-◌, ◌<◌, ◌≤◌, leb, Bool, true, false, cond, List, [], ◌∷◌, ◌++◌, length, get_or, Option, None, Some, IsSome, refl, sym, ap, subst, ◌∙◌, arith, append_assoc, length-append}
use Rattle.std.proofs.Math.ListN.{get_or-append}
use Rattle.std.proofs.Math.Seq.{get_or-append_seam}
use Rattle.std.proofs.lemmas.List.{get_or_default}
use Rattle.std.specs.List.{AllPairs, Contains}
use Rattle.std.specs.Str.{bytes_eq}
use Rattle.std.specs.Ordering.{nat_cmp, ordering_then, ordering_index, is_lt}
use Rattle.std.specs.Cmp.Lexicographic.{slice_cmp}
use Rattle.std.specs.List.Sorted.{IsPartitionedBy, IsPartitionPoint}
use Rattle.std.proofs.lemmas.List.Sorted.{IsPartitionedBy-leb}
use Rattle.std.specs.declared.cmp.Ordering.{Ordering}
use Rattle.std.specs.declared.cmp.Ordering.TheVariants.{Less, Equal, Greater}
use Rattle.std.proofs.lemmas.Cmp.{nat_cmp_total, tied_itself}
use Rattle.std.proofs.lemmas.Map.Lookups.{exact_bytes, exact_unsigned}
use Rattle.std.proofs.lemmas.Bool.{cases_lt, cases_eq}
use Rattle.base_core.specs.Files.{IsFolderOf, HasNoFileAsFolder, NameMap, put_name, drop_name}
use Rattle.base_core.proofs.Orderings.{is_less, tied_then}
use Rattle.base_core.proofs.AtName.{other_name, name_cases, off_name}
use Rattle.base_core.proofs.Folders.{at_folder}
use Rattle.tree_memory.specs.Table.{IsSortedNameTable, lookup, IsStartOfFolder, MakesNoFolderOfAnother, AreTableNamesBelow, HasNameBelowOtherThan, HasFolderOtherThan}
use Rattle.tree_memory.proofs.AtName.{put-at, put-off, drop_name-at, drop_name-off}
use Rattle.tree_memory.proofs.Placed.{searchable, located, looked_up}
use Rattle.tree_memory.specs.declared.table.NameAndFile.{NameAndFile}

abbrev cmp : List ℕ → List ℕ → Ordering
cmp = slice_cmp nat_cmp

-- what a list begins is not below it
not_below : (p rest : List ℕ) → cmp (p ++ rest) p ≢ Less
not_below [] [] = λ less. cc
not_below [] (x ∷ rest) = λ less. cc
not_below (a ∷ p) rest = λ less. not_below p rest (sym (tied_then (nat_cmp a a) (cmp (p ++ rest) p) (tied_itself nat_cmp_total a)) ∙ less)

-- what lies between a list and one that it begins begins so too
pub begins_between : (p rest x : List ℕ) → cmp x p ≡ Greater → cmp x (p ++ rest) ≢ Greater → (t : List ℕ) × (x ≡ p ++ t)
begins_between [] rest x above upto = (x, refl)
begins_between (a ∷ p) rest [] above upto = absurd (cc)
begins_between (a ∷ p) rest (b ∷ x) above upto = by (nat_cmp b a) refl above upto (begins_between p rest x)
  where
    by : (o : Ordering) → nat_cmp b a ≡ o → ordering_then o (cmp x p) ≡ Greater → (ordering_then o (cmp x (p ++ rest)) ≡ Greater → ⊥)
        → (cmp x p ≡ Greater → (cmp x (p ++ rest) ≡ Greater → ⊥) → (t : List ℕ) × (x ≡ p ++ t)) → (t : List ℕ) × (b ∷ x ≡ a ∷ p ++ t)
    by Less is above upto rest_of = absurd (cc)
    by Equal is above upto rest_of = let more = rest_of above upto in (more.0, λ i. exact_unsigned b a is i ∷ more.1 i)
    by Greater is above upto rest_of = absurd (upto refl)

-- ---- a folder and a name

pub not_itself : (name : List ℕ) → IsFolderOf name name → ⊥
not_itself name folder = omega (arith, (at_folder name name folder).0)

-- ---- where the names below a folder stand

abbrev slashed : List ℕ → List ℕ
slashed folder = folder ++ 47 ∷ []

-- a name below a folder is not before the folder's name and a slash
below_from : (folder name : List ℕ) → IsFolderOf folder name → cmp name (slashed folder) ≢ Less
below_from folder name (rest, is) = λ less.
    not_below (slashed folder) rest (ap (λ (l : List ℕ). cmp l (slashed folder)) (append_assoc folder (47 ∷ []) rest ∙ sym is) ∙ less)

less_index : (o : Ordering) → is_lt o ≡ leb (ordering_index o) 0
less_index Less = refl
less_index Equal = refl
less_index Greater = refl

-- the names before the folder's name and a slash come first
pub parted : (es : List NameAndFile) (folder : List ℕ) → IsSortedNameTable es → IsPartitionedBy (λ (e : NameAndFile). is_lt (cmp e.name (folder ++ 47 ∷ []))) es
parted es folder table i j d upto within at =
    let by = IsPartitionedBy-leb (λ (e : NameAndFile). ordering_index (cmp e.name (slashed folder))) es 0 (searchable es (slashed folder) table) i j d upto within in
    less_index (cmp (get_or es i d).name (slashed folder)) ∙ by (sym (less_index (cmp (get_or es j d).name (slashed folder))) ∙ at)

not_less : (o : Ordering) → is_lt o ≡ false → o ≢ Less
not_less Less is = absurd (cc)
not_less Equal is = λ less. cc
not_less Greater is = λ less. cc

pub start_from : (es : List NameAndFile) (i : ℕ) (folder : List ℕ) → i ≤ length es
    → IsPartitionPoint (λ (e : NameAndFile). is_lt (cmp e.name (folder ++ 47 ∷ [])) ≡ true) (λ (e : NameAndFile). is_lt (cmp e.name (folder ++ 47 ∷ [])) ≡ false) es i → IsStartOfFolder es i folder
start_from es i folder within point = record {
  within = within;
  before = λ k d low high. is_less (cmp (get_or es k d).name (slashed folder)) (point.0 k d low high);
  behind = λ k d low high. not_less (cmp (get_or es k d).name (slashed folder)) (point.1 k d low high);
}

-- a name below a folder stands behind the start
pub behind_start : (es : List NameAndFile) (start k : ℕ) (d : NameAndFile) (folder : List ℕ) → IsStartOfFolder es start folder → k < length es → IsFolderOf folder (get_or es k d).name → start ≤ k
behind_start es start k d folder is within below =
    ⊎_elim (λ early. absurd (below_from folder (get_or es k d).name below (is.before k d (omega arith) early))) (λ late. late) (cases_lt k start)

greater : (o : Ordering) → o ≢ Less → o ≢ Equal → o ≡ Greater
greater Less = λ less equal. absurd (less refl)
greater Equal = λ less equal. absurd (equal refl)
greater Greater = λ less equal. refl

-- behind an entry that is not below the folder, from the start on, none is
pub none_behind : (es : List NameAndFile) (start i k : ℕ) (d : NameAndFile) (folder : List ℕ) → IsSortedNameTable es → IsStartOfFolder es start folder → start ≤ i → i ≤ k → k < length es → (IsFolderOf folder (get_or es i d).name → ⊥) → IsFolderOf folder (get_or es k d).name → ⊥
none_behind es start i k d folder table is from upto within off below =
    ⊎_elim (λ same. off (subst (λ (n : ℕ). IsFolderOf folder (get_or es n d).name) (sym same) below))
    (λ apart. between below.0 (get_or es k d).name below.1 (table i k d (omega (arith, upto, apart)) within)) (cases_eq i k)
  where
    here : cmp (get_or es i d).name (slashed folder) ≡ Greater
    here = greater (cmp (get_or es i d).name (slashed folder)) (is.behind i d from (omega (arith, upto, within))) (λ equal. off ([], exact_bytes _ _ equal))

    between : (rest other : List ℕ) → other ≡ folder ++ 47 ∷ rest → cmp (get_or es i d).name other ≡ Less → ⊥
    between rest other spelt less =
        let whole : other ≡ slashed folder ++ rest = spelt ∙ sym (append_assoc folder (47 ∷ []) rest) in
        let less_whole : cmp (get_or es i d).name (slashed folder ++ rest) ≡ Less = sym (ap (cmp (get_or es i d).name) whole) ∙ less in
        let begun = begins_between (slashed folder) rest (get_or es i d).name here (λ g. cc (g, less_whole)) in
        off (begun.0, begun.1 ∙ append_assoc folder (47 ∷ []) begun.0)

pub entry_at : (es : List NameAndFile) (i : ℕ) (e d : NameAndFile) → i < length es → e ≡ get_or es i e → get_or es i d ≡ e
entry_at es i e d within is = get_or_default es i d e within ∙ sym is

-- what is said of the name of an entry, at its place
pub at_entry : (es : List NameAndFile) (i : ℕ) (e d : NameAndFile) (name : List ℕ) → i < length es → e ≡ get_or es i e → name ≡ e.name → name ≡ (get_or es i d).name
at_entry es i e d name within is spelt = spelt ∙ ap (λ (x : NameAndFile). x.name) (sym (entry_at es i e d within is))

-- and of those behind it
pub none_from : (es : List NameAndFile) (start i : ℕ) (folder name : List ℕ) (e : NameAndFile) → IsSortedNameTable es → IsStartOfFolder es start folder → start ≤ i → i < length es → e ≡ get_or es i e → name ≡ e.name → (IsFolderOf folder name → ⊥)
    → (k : ℕ) (d : NameAndFile) → i ≤ k → k < length es → IsFolderOf folder (get_or es k d).name → ⊥
none_from es start i folder name e table is from inside here spelt off k d upto within =
    none_behind es start i k d folder table is from upto within (λ below. off (subst (IsFolderOf folder) (sym (at_entry es i e d name inside here spelt)) below))

-- ---- whether a table has a name below a folder, but one that is left out

pub has_at : (es : List NameAndFile) (i : ℕ) (d : NameAndFile) (folder but : List ℕ) → i < length es → IsFolderOf folder (get_or es i d).name → bytes_eq (get_or es i d).name but ≡ false → HasNameBelowOtherThan es folder but
has_at es i d folder but within below off = ((get_or es i d).name, below, (looked_up es i d within, off))

-- from the start on each entry so far is the one left out
pub record IsOut (es : List NameAndFile) (start i : ℕ) (but : List ℕ) : Type 0 where
  pub each : (k : ℕ) (d : NameAndFile) → start ≤ k → k < i → (get_or es k d).name ≡ but

pub has_none : (es : List NameAndFile) (start i : ℕ) (folder but : List ℕ) → IsSortedNameTable es → IsStartOfFolder es start folder → start ≤ i → IsOut es start i but
    → ((k : ℕ) (d : NameAndFile) → i ≤ k → k < length es → IsFolderOf folder (get_or es k d).name → ⊥) → HasNameBelowOtherThan es folder but → ⊥
has_none es start i folder but table is from out behind (name, below, (some, off)) =
    let d : NameAndFile = record { name = name; file = 0 } in
    let at = located es name d some in
    let here : IsFolderOf folder (get_or es at.0 d).name = subst (IsFolderOf folder) (sym at.2) below in
    let later = behind_start es start at.0 d folder is at.1 here in
    ⊎_elim (λ early. off_name name but off (sym at.2 ∙ out.each at.0 d later early)) (λ late. behind at.0 d late at.1 here) (cases_lt at.0 i)

-- ---- the listing of a folder

-- the names of the entries from one place to another, which are all below the folder
pub record IsListing (es : List NameAndFile) (start i : ℕ) (folder : List ℕ) (names : List (List ℕ)) : Type 0 where
  pub long : start + length names ≡ i
  pub each : (k : ℕ) (d : NameAndFile) → k < length names → get_or names k d.name ≡ (get_or es (start + k) d).name
  pub below : (k : ℕ) (d : NameAndFile) → k < length names → IsFolderOf folder (get_or es (start + k) d).name

pub listing_none : (es : List NameAndFile) (start : ℕ) (folder : List ℕ) → IsListing es start start folder []
listing_none es start folder = record { long = omega arith; each = λ k d within. absurd (omega arith); below = λ k d within. absurd (omega arith) }

pub listing_more : (es : List NameAndFile) (start i : ℕ) (folder name : List ℕ) (names : List (List ℕ)) (e : NameAndFile) → IsListing es start i folder names → i < length es → e ≡ get_or es i e → name ≡ e.name → IsFolderOf folder e.name
    → IsListing es start (i + 1) folder (names ++ name ∷ [])
listing_more es start i folder name names e so_far within is spelt below = record {
  long = omega (arith, so_far.long, length-append names (name ∷ []));
  each = λ k d inside. ⊎_elim (λ lower. get_or-append names (name ∷ []) d.name k lower ∙ so_far.each k d lower)
      (λ upper. let last : k ≡ length names = omega (arith, upper, inside, length-append names (name ∷ [])) in
      ap (λ n. get_or (names ++ name ∷ []) n d.name) last ∙ get_or-append_seam names name [] d.name ∙ spelt ∙ sym (ap (λ (x : NameAndFile). x.name) (here k d last)))
      (cases_lt k (length names));
  below = λ k d inside. ⊎_elim (λ lower. so_far.below k d lower)
      (λ upper. let last : k ≡ length names = omega (arith, upper, inside, length-append names (name ∷ [])) in
      subst (λ (x : NameAndFile). IsFolderOf folder x.name) (sym (here k d last)) below)
      (cases_lt k (length names));
}
  where
    here : (k : ℕ) (d : NameAndFile) → k ≡ length names → get_or es (start + k) d ≡ e
    here k d last = let same : start + k ≡ i = omega (arith, last, so_far.long) in ap (λ n. get_or es n d) same ∙ entry_at es i e d within is

pub listed_below : (es : List NameAndFile) (start i : ℕ) (folder : List ℕ) (names : List (List ℕ)) → IsSortedNameTable es → IsStartOfFolder es start folder → i ≤ length es → IsListing es start i folder names
    → ((k : ℕ) (d : NameAndFile) → i ≤ k → k < length es → IsFolderOf folder (get_or es k d).name → ⊥) → AreTableNamesBelow es folder names
listed_below es start i folder names table is upto so_far behind = record { rising = rising; each = λ q. (there q, back q) }
  where
    inside : (k : ℕ) → k < length names → start + k < length es
    inside k within = omega (arith, within, so_far.long, upto)

    rising : AllPairs (λ a b. slice_cmp nat_cmp a b ≡ Less) names
    rising j k d below within =
        let e : NameAndFile = record { name = d; file = 0 } in
        (λ n. slice_cmp nat_cmp (so_far.each j e (omega (arith, below, within)) n) (so_far.each k e within n)) ∙ table (start + j) (start + k) e (omega (arith, below)) (inside k within)

    there : (q : List ℕ) → Contains names q → IsSome (lookup es q) × IsFolderOf folder q
    there q (k, within, at) =
        let e : NameAndFile = record { name = q; file = 0 } in
        let same : (get_or es (start + k) e).name ≡ q = sym (so_far.each k e within) ∙ at in
        (subst (λ (n : List ℕ). IsSome (lookup es n)) same (looked_up es (start + k) e (inside k within)), subst (IsFolderOf folder) same (so_far.below k e within))

    back : (q : List ℕ) → IsSome (lookup es q) × IsFolderOf folder q → Contains names q
    back q (some, below) =
        let e : NameAndFile = record { name = q; file = 0 } in
        let at = located es q e some in
        let here : IsFolderOf folder (get_or es at.0 e).name = subst (IsFolderOf folder) (sym at.2) below in
        let from = behind_start es start at.0 e folder is at.1 here in
        let before : at.0 < i = ⊎_elim (λ early. early) (λ late. absurd (behind at.0 e late at.1 here)) (cases_lt at.0 i) in
        let place : start + (at.0 - start) ≡ at.0 = omega (arith, from) in
        let within : at.0 - start < length names = omega (arith, from, before, so_far.long) in
        (at.0 - start, within, so_far.each (at.0 - start) e within ∙ ap (λ n. (get_or es n e).name) place ∙ at.2)

-- ---- where a name fits

-- neither is a folder of the other
abbrev IsApart : List ℕ → List ℕ → Type 0
IsApart name q = (IsFolderOf q name → ⊥) × (IsFolderOf name q → ⊥)

folder_like_put : (names : NameMap) (name : List ℕ) (n : ℕ) → HasNoFileAsFolder names → ((q : List ℕ) → IsSome (names q) → q ≢ name → IsApart name q) → HasNoFileAsFolder (put_name names name n)
folder_like_put names name n folders apart p q folder has_p has_q = ⊎_elim
    (λ p_is. ⊎_elim
    (λ q_is. not_itself name (subst (λ (l : List ℕ). IsFolderOf l name) p_is (subst (IsFolderOf p) q_is folder)))
    (λ q_off. let ne = off_name q name q_off in (apart q (subst IsSome (put-off names name n q ne) has_q) ne).1 (subst (λ (x : List ℕ). IsFolderOf x q) p_is folder))
    (name_cases q name))
    (λ p_off. let ne = off_name p name p_off in let has : IsSome (names p) = subst IsSome (put-off names name n p ne) has_p in ⊎_elim
    (λ q_is. (apart p has ne).0 (subst (λ (x : List ℕ). IsFolderOf p x) q_is folder))
    (λ q_off. folders p q folder has (subst IsSome (put-off names name n q (off_name q name q_off)) has_q))
    (name_cases q name))
    (name_cases p name)

apart_from_put : (names : NameMap) (name : List ℕ) (n : ℕ) → HasNoFileAsFolder (put_name names name n) → (q : List ℕ) → IsSome (names q) → IsApart name q
apart_from_put names name n folders q some = ⊎_elim
    (λ is. (λ folder. not_itself name (subst (λ (l : List ℕ). IsFolderOf l name) is folder), λ folder. not_itself name (subst (IsFolderOf name) is folder)))
    (λ off. let has : IsSome (put_name names name n q) = subst IsSome (sym (put-off names name n q (off_name q name off))) some in
    let here : IsSome (put_name names name n name) = subst IsSome (sym (put-at names name n name refl)) refl in
    (λ folder. folders q name folder has here, λ folder. folders name q folder here has))
    (name_cases q name)

-- fewer names, or others in their places
pub folder_like_fewer : (m n : NameMap) → ((q : List ℕ) → IsSome (n q) → IsSome (m q)) → HasNoFileAsFolder m → HasNoFileAsFolder n
folder_like_fewer m n fewer folders p q folder has_p has_q = folders p q folder (fewer p has_p) (fewer q has_q)

some_dropped : (names : NameMap) (name q : List ℕ) → IsSome (drop_name names name q) → IsSome (names q) × (q ≢ name)
some_dropped names name q some = ⊎_elim
    (λ is. let none = drop_name-at names name q is in absurd (cc (none, some)))
    (λ off. let ne = off_name q name off in (subst IsSome (drop_name-off names name q ne) some, ne))
    (name_cases q name)

pub fewer_dropped : (names : NameMap) (name q : List ℕ) → IsSome (drop_name names name q) → IsSome (names q)
fewer_dropped names name q some = (some_dropped names name q some).0

other_number : (names : NameMap) (name : List ℕ) (m n : ℕ) (q : List ℕ) → IsSome (put_name names name m q) → IsSome (put_name names name n q)
other_number names name m n q = by (bytes_eq q name) (names q)
  where
    by : (b : Bool) (r : Option ℕ) → IsSome (cond b (Some m) r) → IsSome (cond b (Some n) r)
    by true r some = refl
    by false r some = some

pub folder_like_number : (names : NameMap) (name : List ℕ) (m n : ℕ) → HasNoFileAsFolder (put_name names name m) → HasNoFileAsFolder (put_name names name n)
folder_like_number names name m n = folder_like_fewer (put_name names name m) (put_name names name n) (other_number names name n m)

-- a name that is put is dropped no less
put_anyway : (names : NameMap) (name : List ℕ) (n : ℕ) (q : List ℕ) → put_name (drop_name names name) name n q ≡ put_name names name n q
put_anyway names name n q = by (bytes_eq q name) (names q)
  where
    by : (b : Bool) (r : Option ℕ) → cond b (Some n) (cond b None r) ≡ cond b (Some n) r
    by true r = refl
    by false r = refl

module _ (names : NameMap) (es : List NameAndFile) (same : (q : List ℕ) → names q ≡ lookup es q) where
  pub fits_moved : (from to : List ℕ) (n : ℕ) → HasNoFileAsFolder names → MakesNoFolderOfAnother es to from → HasNoFileAsFolder (put_name (drop_name names from) to n)
  fits_moved from to n folders fit =
      folder_like_put (drop_name names from) to n (folder_like_fewer names (drop_name names from) (fewer_dropped names from) folders)
      (λ q some ne. let was = some_dropped names from q some in let here : IsSome (lookup es q) = subst IsSome (same q) was.0 in
      (λ above. fit.above (q, above, (here, other_name q from was.1)), λ below. fit.below (q, below, (here, other_name q from was.1))))

  pub moved_fits : (from to : List ℕ) (n : ℕ) → HasNoFileAsFolder (put_name (drop_name names from) to n) → MakesNoFolderOfAnother es to from
  moved_fits from to n folders = record {
    above = λ (q, above, (some, off)). (apart_from_put (drop_name names from) to n folders q (there q some off)).0 above;
    below = λ (q, below, (some, off)). (apart_from_put (drop_name names from) to n folders q (there q some off)).1 below;
  }
    where
      there : (q : List ℕ) → IsSome (lookup es q) → bytes_eq q from ≡ false → IsSome (drop_name names from q)
      there q some off = subst IsSome (sym (drop_name-off names from q (off_name q from off) ∙ same q)) some

  pub fits_put : (name : List ℕ) (n : ℕ) → HasNoFileAsFolder names → MakesNoFolderOfAnother es name name → HasNoFileAsFolder (put_name names name n)
  fits_put name n folders fit = folder_like_fewer (put_name (drop_name names name) name n) (put_name names name n) (λ q some. subst IsSome (sym (put_anyway names name n q)) some) (fits_moved name name n folders fit)

  pub put_fits : (name : List ℕ) (n : ℕ) → HasNoFileAsFolder (put_name names name n) → MakesNoFolderOfAnother es name name
  put_fits name n folders = moved_fits name name n (folder_like_fewer (put_name names name n) (put_name (drop_name names name) name n) (λ q some. subst IsSome (put_anyway names name n q) some) folders)

-- ---- whether a table has a name below another

pub folder_found : (es : List NameAndFile) (i : ℕ) (e : NameAndFile) (name : List ℕ) → i < length es → e ≡ get_or es i e → name ≡ e.name → HasFolderOtherThan es name name → HasNoFileAsFolder (lookup es) → ⊥
folder_found es i e name within is spelt (folder, below, (present, off)) none =
    none folder name below present (subst (λ (n : List ℕ). IsSome (lookup es n)) (sym (at_entry es i e e name within is spelt)) (looked_up es i e within))

-- no name so far has a folder among the names
pub record AreFree (es : List NameAndFile) (i : ℕ) : Type 0 where
  pub each : (k : ℕ) (d : NameAndFile) → k < i → HasFolderOtherThan es (get_or es k d).name (get_or es k d).name → ⊥

pub free_none : (es : List NameAndFile) → AreFree es 0
free_none es = record { each = λ k d within. absurd (omega (arith, within)) }

pub free_more : (es : List NameAndFile) (i : ℕ) (e : NameAndFile) (name : List ℕ) → i < length es → e ≡ get_or es i e → name ≡ e.name → (HasFolderOtherThan es name name → ⊥) → AreFree es i → AreFree es (i + 1)
free_more es i e name within is spelt off so_far = record { each = λ k d below. ⊎_elim (λ (same : k ≡ i). here k d same) (λ (apart : k ≢ i). so_far.each k d (omega (arith, below, apart))) (cases_eq k i) }
  where
    here : (k : ℕ) (d : NameAndFile) → k ≡ i → HasFolderOtherThan es (get_or es k d).name (get_or es k d).name → ⊥
    here k d same has = off (subst (λ (n : List ℕ). HasFolderOtherThan es n n) (ap (λ (j : ℕ). (get_or es j d).name) same ∙ sym (at_entry es i e d name within is spelt)) has)

pub free_all : (es : List NameAndFile) (i : ℕ) → length es ≤ i → AreFree es i → HasNoFileAsFolder (lookup es)
free_all es i all free p q below has_p has_q =
    let none : NameAndFile = record { name = q; file = 0 } in
    let (k, within, same) = located es q none has_q in
    free.each k none (omega (arith, within, all))
    (subst (λ (n : List ℕ). HasFolderOtherThan es n n) (sym same) (p, below, (has_p, other_name p q (λ is. not_itself q (subst (λ (n : List ℕ). IsFolderOf n q) is below)))))
