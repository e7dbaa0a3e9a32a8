-- The first name that stays of those that a folder's listing has.
use Rattle.std.proofs.Common.{◌≡◌, ⊎_elim, ℕ, zero, suc, ◌+◌, ◌<◌, Bool, true, false, cond, List, [], ◌∷◌, length, get_or, drop, Option, Some, None, IsSome, refl, sym, ap, ◌∙◌, arith, true≢false}
use Rattle.std.specs.Prelude.{not, is_some, slice_get}
use Rattle.std.specs.List.{Contains, find}
use Rattle.std.specs.Ordering.{is_lt}
use Rattle.std.proofs.lemmas.Bool.{and_from, and_parts, cases_order}
use Rattle.std.proofs.lemmas.List.{at_drop_more, get_or_default}
use Rattle.std.proofs.lemmas.Option.{get_or_from_slice_get, slice_get_within}
use Rattle.base_core.specs.Files.{IsFolderOf}
use Rattle.base_core.specs.Listed.{IsSortedListingOfFolder}
use Rattle.base_core.specs.Tree.{File, TreeState, bytes_of_file_number, files_of}
use Rattle.base_core.specs.ByteOrder.{bytes_cmp, precedes}
use Rattle.base_core.proofs.Orderings.{precedes_one_way}
use Rattle.path_clashes.specs.NearName.{IsFirstNameBelowOrNone, is_name_present}
use Rattle.path_clashes.proofs.PairOrder.{precedes_itself}

-- ---- what `find` finds

pub record IsFirstPassing (p : List ℕ → Bool) (xs : List (List ℕ)) (x : List ℕ) : Type 0 where
  pub at : ℕ
  pub within : at < length xs
  pub here : get_or xs at x ≡ x
  pub passes : p x ≡ true
  pub before : (j : ℕ) (d : List ℕ) → j < at → p (get_or xs j d) ≡ false

passing_next : (p : List ℕ → Bool) (y : List ℕ) (ys : List (List ℕ)) (x : List ℕ) → p y ≡ false → IsFirstPassing p ys x → IsFirstPassing p (y ∷ ys) x
passing_next p y ys x off f = record { at = suc f.at; within = omega (arith, f.within); here = f.here; passes = f.passes; before = before }
  where
    before : (j : ℕ) (d : List ℕ) → j < suc f.at → p (get_or (y ∷ ys) j d) ≡ false
    before zero d l = off
    before (suc j) d l = f.before j d (omega arith)

pub find-Some : (p : List ℕ → Bool) (xs : List (List ℕ)) (x : List ℕ) → find p xs ≡ Some x → IsFirstPassing p xs x
find-Some p [] x e = absurd (cc)
find-Some p (y ∷ ys) x e = by (p y) refl e (find-Some p ys x)
  where
    by : (b : Bool) → p y ≡ b → cond b (Some y) (find p ys) ≡ Some x → (find p ys ≡ Some x → IsFirstPassing p ys x) → IsFirstPassing p (y ∷ ys) x
    by true passes e rest =
        let same : y ≡ x = cc in
        record { at = 0; within = omega arith; here = same; passes = ap p (sym same) ∙ passes; before = λ j d l. absurd (omega arith) }
    by false off e rest = passing_next p y ys x off (rest e)

pub find-None : (p : List ℕ → Bool) (xs : List (List ℕ)) → find p xs ≡ None → (j : ℕ) (d : List ℕ) → j < length xs → p (get_or xs j d) ≡ false
find-None p [] e j d l = absurd (omega arith)
find-None p (y ∷ ys) e j d l = by (p y) refl e (find-None p ys) j l
  where
    by : (b : Bool) → p y ≡ b → cond b (Some y) (find p ys) ≡ None → (find p ys ≡ None → (j : ℕ) (d : List ℕ) → j < length ys → p (get_or ys j d) ≡ false) → (j : ℕ) → j < suc (length ys) → p (get_or (y ∷ ys) j d) ≡ false
    by true passes e rest j l = absurd (cc)
    by false off e rest zero l = off
    by false off e rest (suc j) l = rest e j d (omega arith)

-- ---- one step of a search

rest_at : (p : List ℕ → Bool) (names : List (List ℕ)) (i : ℕ) (x : List ℕ) → slice_get names i ≡ Some x → find p (drop i names) ≡ cond (p x) (Some x) (find p (drop (i + 1) names))
rest_at p names i x here =
    at_drop_more (find p) names i x (slice_get_within names i x here)
    ∙ ap (λ (y : List ℕ). cond (p y) (Some y) (find p (drop (i + 1) names))) (get_or_from_slice_get names i x x here)

pub passes_here : (p : List ℕ → Bool) (names : List (List ℕ)) (i : ℕ) (x : List ℕ) → slice_get names i ≡ Some x → p x ≡ true → find p names ≡ find p (drop i names) → Some x ≡ find p names
passes_here p names i x here passes so_far =
    sym (so_far ∙ (rest_at p names i x here ∙ ap (λ b. cond b (Some x) (find p (drop (i + 1) names))) passes))

pub fails_here : (p : List ℕ → Bool) (names : List (List ℕ)) (i : ℕ) (x : List ℕ) → slice_get names i ≡ Some x → p x ≡ false → find p names ≡ find p (drop i names) → find p names ≡ find p (drop (i + 1) names)
fails_here p names i x here fails so_far =
    so_far ∙ (rest_at p names i x here ∙ ap (λ b. cond b (Some x) (find p (drop (i + 1) names))) fails)

-- ---- in a listing

there : (files : ℕ → File) (o : Option ℕ) → IsSome o → is_some (bytes_of_file_number files o) ≡ true
there files None some = absurd (cc)
there files (Some n) some = refl

pub is_present : (files : ℕ → File) (o : Option ℕ) → is_some (bytes_of_file_number files o) ≡ true → IsSome o
is_present files None some = absurd (cc)
is_present files (Some n) some = refl

module _ (does_release : List ℕ → Bool) (v : TreeState) (folder : List ℕ) (names : List (List ℕ)) (list : IsSortedListingOfFolder folder v names) where
  abbrev stays : List ℕ → Bool
  stays name = not (does_release name)

  listed : (other : List ℕ) → IsFolderOf folder other → is_name_present does_release (files_of v) other ≡ true → Contains names other × (stays other ≡ true)
  listed other below present_files =
      let parts = and_parts (is_some (files_of v other)) (not (does_release other)) present_files in
      ((list.each other).1 (is_present v.files (v.names other) parts.0, below), parts.1)

  pub none_listed : find stays names ≡ None → IsFirstNameBelowOrNone does_release (files_of v) folder None
  none_listed none other below present_files =
      let at = listed other below present_files in
      true≢false (sym at.1 ∙ (ap stays (sym at.0.2) ∙ find-None stays names none at.0.0 other at.0.1))

  pub first_listed : (name : List ℕ) → find stays names ≡ Some name → IsFirstNameBelowOrNone does_release (files_of v) folder (Some name)
  first_listed name is = record { below = entry.1; present_files = and_from (is_some (files_of v name)) (not (does_release name)) (there v.files (v.names name) entry.0) f.passes; first = first }
    where
      f : IsFirstPassing stays names name
      f = find-Some stays names name is

      entry : IsSome (v.names name) × IsFolderOf folder name
      entry = (list.each name).0 (f.at, f.within, f.here)

      first : (other : List ℕ) → IsFolderOf folder other → is_name_present does_release (files_of v) other ≡ true → precedes other name ≡ false
      first other below present_files = by (listed other below present_files)
        where
          by : Contains names other × (stays other ≡ true) → precedes other name ≡ false
          by ((k, within, here), stay) =
              ⊎_elim (λ same. let e : other ≡ name = sym here ∙ (ap (λ n. get_or names n other) same ∙ at_name other) in ap (λ (l : List ℕ). precedes l name) e ∙ precedes_itself name)
              (λ apart. ⊎_elim (λ early. absurd (true≢false (sym stay ∙ (ap stays (sym here) ∙ f.before k other early))))
              (λ late. precedes_one_way name other (ap is_lt (sym ((λ i. bytes_cmp (at_name other i) (here i))) ∙ list.rising f.at k other late within)))
              apart) (cases_order k f.at)
            where
              at_name : (d : List ℕ) → get_or names f.at d ≡ name
              at_name d = get_or_default names f.at d name f.within ∙ f.here

  pub found_listed : (found : Option (List ℕ)) → found ≡ find stays names → IsFirstNameBelowOrNone does_release (files_of v) folder found
  found_listed None is = none_listed (sym is)
  found_listed (Some name) is = first_listed name (sym is)
