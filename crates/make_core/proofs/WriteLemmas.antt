-- The values of an option, and those that are given one after the other.
use Rattle.std.proofs.Common.{◌≡◌, ℕ, ◌+◌, ◌<◌, List, [], ◌∷◌, ◌++◌, length, take, drop, map, sym, ap, ◌∙◌, Bool, true, false, ◌==◌, if◌then◌else◌, slice_get, Some, append-nil, filter}
use borrow.Author.Tests.{ne_eqb, eq-eqb}
use Rattle.std.proofs.lemmas.Option.{get_or_from_slice_get, slice_get_within}
use Rattle.std.proofs.lemmas.List.Elements.{filter-append}
use Rattle.adb_view.specs.Plain.{blob_or_null, Plains, more}
use Rattle.command_core.specs.declared.values.OptionValue.{OptionValue}
use Rattle.package_files.specs.Sources.{values_of_letter, texts_of}
use Rattle.std.proofs.lemmas.List.{take_more}
use Rattle.package_files.specs.adb_values.Drafts.{DraftState, draft_with, draft_with_all}
use Rattle.package_files.proofs.adb_values.Lists.{drop_at}
use Rattle.package_files.specs.make_info.Values.{plains_of_list}

-- ---- the values of an option

abbrev if_of : Bool → OptionValue → List OptionValue
if_of b v = if b then v ∷ [] else []

given_next : (letter : ℕ) (values : List OptionValue) (i : ℕ) (v : OptionValue) (b : Bool) → slice_get values i ≡ Some v → (v.letter == letter) ≡ b
    → values_of_letter letter (take (i + 1) values) ≡ values_of_letter letter (take i values) ++ if_of b v
given_next letter values i v b here e =
    let lt : i < length values = slice_get_within values i v here in
    let p : OptionValue → Bool = λ w. w.letter == letter in
    ap (filter p) (take_more values i v lt ∙ ap (λ (w : OptionValue). take i values ++ w ∷ []) (get_or_from_slice_get values i v v here))
    ∙ filter-append p (take i values) (v ∷ []) ∙ ap (λ (c : Bool). values_of_letter letter (take i values) ++ if_of c v) e

pub given_append : (letter : ℕ) (xs ys : List OptionValue) → values_of_letter letter (xs ++ ys) ≡ values_of_letter letter xs ++ values_of_letter letter ys
given_append letter xs ys = let p : OptionValue → Bool = λ w. w.letter == letter in filter-append p xs ys

pub given_one : (letter : ℕ) (values : List OptionValue) (i : ℕ) (v : OptionValue) → slice_get values i ≡ Some v → v.letter ≡ letter
    → values_of_letter letter (take (i + 1) values) ≡ values_of_letter letter (take i values) ++ v ∷ []
given_one letter values i v here e = given_next letter values i v true here (eq-eqb v.letter letter e)

pub given_other : (letter : ℕ) (values : List OptionValue) (i : ℕ) (v : OptionValue) → slice_get values i ≡ Some v → (v.letter ≡ letter → ⊥)
    → values_of_letter letter (take (i + 1) values) ≡ values_of_letter letter (take i values)
given_other letter values i v here ne = given_next letter values i v false here (ne_eqb v.letter letter ne) ∙ append-nil (values_of_letter letter (take i values))

abbrev pub blobs : List OptionValue → Plains
blobs values = plains_of_list (map blob_or_null (texts_of values))

-- the blobs from a place on: with a value of the option in front, and without
blobs_from : (letter : ℕ) (values : List OptionValue) (i : ℕ) (v : OptionValue) (b : Bool) → slice_get values i ≡ Some v → (v.letter == letter) ≡ b
    → blobs (values_of_letter letter (drop i values)) ≡ (if b then more (blob_or_null v.text) (blobs (values_of_letter letter (drop (i + 1) values))) else blobs (values_of_letter letter (drop (i + 1) values)))
blobs_from letter values i v b here e =
    ap (λ (l : List OptionValue). blobs (values_of_letter letter l)) (drop_at values i v here) ∙ behind b e
  where
    rest : List OptionValue
    rest = drop (i + 1) values

    behind : (c : Bool) → (v.letter == letter) ≡ c → blobs (values_of_letter letter (v ∷ rest)) ≡ (if c then more (blob_or_null v.text) (blobs (values_of_letter letter rest)) else blobs (values_of_letter letter rest))
    behind true is = ap (λ (c : Bool). blobs (if c then v ∷ values_of_letter letter rest else values_of_letter letter rest)) is
    behind false is = ap (λ (c : Bool). blobs (if c then v ∷ values_of_letter letter rest else values_of_letter letter rest)) is

module _ (letter : ℕ) (values : List OptionValue) (i : ℕ) (v : OptionValue) (old new whole : DraftState) (here : slice_get values i ≡ Some v) (left : draft_with_all (blobs (values_of_letter letter (drop i values))) old ≡ whole) where
  -- a value of the option is given
  pub blob_given : v.letter ≡ letter → new ≡ draft_with (blob_or_null v.text) old → draft_with_all (blobs (values_of_letter letter (drop (i + 1) values))) new ≡ whole
  blob_given e one =
      ap (λ (d : DraftState). draft_with_all (blobs (values_of_letter letter (drop (i + 1) values))) d) one
      ∙ sym (ap (λ (us : Plains). draft_with_all us old) (blobs_from letter values i v true here (eq-eqb v.letter letter e))) ∙ left

  -- another is left out
  pub blob_passed : (v.letter ≡ letter → ⊥) → new ≡ old → draft_with_all (blobs (values_of_letter letter (drop (i + 1) values))) new ≡ whole
  blob_passed ne same =
      ap (λ (d : DraftState). draft_with_all (blobs (values_of_letter letter (drop (i + 1) values))) d) same
      ∙ sym (ap (λ (us : Plains). draft_with_all us old) (blobs_from letter values i v false here (ne_eqb v.letter letter ne))) ∙ left
