-- What a listing says of a folder, and the steps of the loops over operands and repositories.
use Rattle.std.proofs.Common.{◌≡◌, ◌∙◌, ◌+◌, ◌<◌, ◌≤◌, ◌||◌, ℕ, zero, suc, Bool, true, false, List, [], ◌∷◌, ◌++◌, length, drop, drop_of_length-le, Option, Some, None, Result, Ok, Err, refl, sym, ap, arith, inl, inr, append_assoc, append-nil}
use Rattle.std.specs.Prelude.{OnOk}
use Rattle.std.specs.List.{slice_get, slice_index_or, Contains}
use Rattle.std.specs.Option.{option_map}
use Rattle.std.specs.Str.{bytes_eq}
use Rattle.std.proofs.lemmas.Option.{none-some, same_Some}
use Rattle.std.proofs.lemmas.Slice.Eq.{bytes_eq-Decides}
use Rattle.base_core.specs.Calls.{IfObservable}
use Rattle.base_core.specs.Listed.{IsSortedListingOfFolder}
use Rattle.base_core.specs.Tree.{TreeState, files_of}
use Rattle.command_core.specs.declared.operands.Operand.{Operand}
use Rattle.dep_core.specs.Repositories.{Repository, repositories_of}
use Rattle.root_names.specs.RootNames.{repositories_name}
use Rattle.words_core.proofs.OneMore.{left_at}
use Rattle.hint_core.specs.Warnings.{HasFileBelow, WarnsOfFolder, WarnsOfTags, empty_folder_line, is_tag_of, has_repository_with_tag, unknown_tag_line, tag_of, warning_if_tag_unknown, tag_warnings, text_of_found, tag_warnings_if_read}

-- ---- a folder

nothing_below : (v : TreeState) (folder : List ℕ) (names : List (List ℕ)) → IsSortedListingOfFolder folder v names → length names ≡ 0 → HasFileBelow v folder → ⊥
nothing_below v folder names listed none has =
    let at = (listed.each has.0).1 (has.1, has.2) in omega (arith, at.1, none)

something_below : (v : TreeState) (folder : List ℕ) (names : List (List ℕ)) → IsSortedListingOfFolder folder v names → (length names ≡ 0 → ⊥) → HasFileBelow v folder
something_below v folder [] listed some = absurd (some refl)
something_below v folder (name ∷ names) listed some =
    let at = (listed.each name).0 (0, omega arith, refl) in (name, at.0, at.1)

pub warned_below : (history : List TreeState) (folder lines : List ℕ) (names : List (List ℕ)) → IfObservable history (λ v. IsSortedListingOfFolder folder v names) → length names ≡ 0 → lines ≡ empty_folder_line folder → IfObservable history (WarnsOfFolder folder lines)
warned_below [] folder lines names listed none is = tt
warned_below (v ∷ earlier) folder lines names listed none is = inr (is, nothing_below v folder names listed none)

pub silent_below : (history : List TreeState) (folder lines : List ℕ) (names : List (List ℕ)) → IfObservable history (λ v. IsSortedListingOfFolder folder v names) → (length names ≡ 0 → ⊥) → lines ≡ [] → IfObservable history (WarnsOfFolder folder lines)
silent_below [] folder lines names listed some is = tt
silent_below (v ∷ earlier) folder lines names listed some is = inl (is, something_below v folder names listed some)

-- ---- tags

pub tags_read : (history : List TreeState) (operands : List Operand) (found : Option (List ℕ)) (lines : List ℕ) → IfObservable history (λ v. found ≡ files_of v repositories_name) → lines ≡ tag_warnings_if_read (repositories_of (text_of_found found)) operands → IfObservable history (WarnsOfTags operands lines)
tags_read [] operands found lines same is = tt
tags_read (v ∷ earlier) operands found lines same is =
    is ∙ ap (λ f. tag_warnings_if_read (repositories_of (text_of_found f)) operands) same

pub warning_more : (rs : List Repository) (os : List Operand) (i : ℕ) (o : Operand) (lines now text : List ℕ) → slice_get os i ≡ Some o → text ≡ o.text → now ≡ lines ++ warning_if_tag_unknown rs (tag_of text)
    → lines ++ tag_warnings rs (drop i os) ≡ tag_warnings rs os → now ++ tag_warnings rs (drop (i + 1) os) ≡ tag_warnings rs os
warning_more rs os i o lines now text at is so h =
    ap (λ (l : List ℕ). l ++ tag_warnings rs (drop (i + 1) os)) (so ∙ ap (λ (t : List ℕ). lines ++ warning_if_tag_unknown rs (tag_of t)) is)
    ∙ append_assoc lines (warning_if_tag_unknown rs (tag_of o.text)) (tag_warnings rs (drop (i + 1) os))
    ∙ ap (λ (l : List Operand). lines ++ tag_warnings rs l) (sym (left_at os i o at)) ∙ h

-- the warnings of all operands, where none is left
pub warnings_end : (rs : List Repository) (os : List Operand) (i : ℕ) (lines : List ℕ) → length os ≤ i → lines ++ tag_warnings rs (drop i os) ≡ tag_warnings rs os → lines ≡ tag_warnings rs os
warnings_end rs os i lines past h =
    sym (append-nil lines) ∙ (ap (λ (l : List Operand). lines ++ tag_warnings rs l) (sym (drop_of_length-le os past)) ∙ h)

-- the repository at an index, of which the tag is known
record IsTagAt (rs : List Repository) (i : ℕ) (tag : Option (List ℕ)) : Type 0 where
  repository : Repository
  at : slice_get rs i ≡ Some repository
  is : repository.tag ≡ tag

tag_at : (rs : List Repository) (i : ℕ) (tag : Option (List ℕ)) → option_map (λ (r : Repository). r.tag) (slice_get rs i) ≡ Some tag → IsTagAt rs i tag
tag_at rs i tag e =
    elim (slice_get rs i) as (λ o. slice_get rs i ≡ o → option_map (λ (r : Repository). r.tag) o ≡ Some tag → IsTagAt rs i tag) [
      | None ↦ λ at none. absurd (none-some tag none)
      | Some r ↦ λ at some. record { repository = r; at = at; is = same_Some _ _ some }
    ] refl e

tagged_from : (rs : List Repository) (i : ℕ) (tag : List ℕ) (found : Option (List ℕ)) → option_map (λ (r : Repository). r.tag) (slice_get rs i) ≡ Some found → has_repository_with_tag (drop i rs) tag ≡ (is_tag_of tag found || has_repository_with_tag (drop (i + 1) rs) tag)
tagged_from rs i tag found e =
    let one = tag_at rs i found e in
    ap (λ (l : List Repository). has_repository_with_tag l tag) (left_at rs i one.repository one.at)
    ∙ ap (λ t. is_tag_of tag t || has_repository_with_tag (drop (i + 1) rs) tag) one.is

pub tagged_here : (rs : List Repository) (i : ℕ) (tag : List ℕ) (found : Option (List ℕ)) → option_map (λ (r : Repository). r.tag) (slice_get rs i) ≡ Some found → is_tag_of tag found ≡ true → has_repository_with_tag rs tag ≡ has_repository_with_tag (drop i rs) tag → true ≡ has_repository_with_tag rs tag
tagged_here rs i tag found e here h =
    sym (h ∙ (tagged_from rs i tag found e ∙ ap (λ b. b || has_repository_with_tag (drop (i + 1) rs) tag) here))

pub tagged_later : (rs : List Repository) (i : ℕ) (tag : List ℕ) (found : Option (List ℕ)) → option_map (λ (r : Repository). r.tag) (slice_get rs i) ≡ Some found → is_tag_of tag found ≡ false → has_repository_with_tag rs tag ≡ has_repository_with_tag (drop i rs) tag → has_repository_with_tag rs tag ≡ has_repository_with_tag (drop (i + 1) rs) tag
tagged_later rs i tag found e other h =
    h ∙ (tagged_from rs i tag found e ∙ ap (λ b. b || has_repository_with_tag (drop (i + 1) rs) tag) other)

-- ---- which tags are warned of

not_true : (b : Bool) → (b ≡ true → ⊥) → b ≡ false
not_true true h = absurd (h refl)
not_true false h = refl

or_true : (b : Bool) → (b || true) ≡ true
or_true true = refl
or_true false = refl

is_other : (tag : List ℕ) (found : Option (List ℕ)) → (found ≡ Some tag → ⊥) → is_tag_of tag found ≡ false
is_other tag None other = refl
is_other tag (Some found) other =
    not_true (bytes_eq found tag) (λ e. other (ap Some ((bytes_eq-Decides found tag).0 e)))

is_same : (tag : List ℕ) (found : Option (List ℕ)) → found ≡ Some tag → is_tag_of tag found ≡ true
is_same tag found e = ap (is_tag_of tag) e ∙ (bytes_eq-Decides tag tag).1 refl

untagged : (rs : List Repository) (tag : List ℕ) → ((r : Repository) → Contains rs r → r.tag ≡ Some tag → ⊥) → has_repository_with_tag rs tag ≡ false
untagged [] tag none = refl
untagged (r ∷ rs) tag none =
    ap (λ b. b || has_repository_with_tag rs tag) (is_other tag r.tag (none r (0, omega arith, refl)))
    ∙ untagged rs tag (λ q at e. none q (suc at.0, omega (arith, at.1), at.2) e)

tagged : (rs : List Repository) (tag : List ℕ) (k : ℕ) (r : Repository) → k < length rs → slice_index_or rs k r ≡ r → r.tag ≡ Some tag → has_repository_with_tag rs tag ≡ true
tagged [] tag k r lt is e = absurd (omega (arith, lt))
tagged (x ∷ rs) tag zero r lt is e =
    ap (λ b. b || has_repository_with_tag rs tag) (is_same tag x.tag (ap (λ (y : Repository). y.tag) is ∙ e))
tagged (x ∷ rs) tag (suc k) r lt is e =
    ap (λ b. is_tag_of tag x.tag || b) (tagged rs tag k r (omega (arith, lt)) is e) ∙ or_true (is_tag_of tag x.tag)

pub warned_if_none : (rs : List Repository) (tag : List ℕ) → ((r : Repository) → Contains rs r → r.tag ≡ Some tag → ⊥) → warning_if_tag_unknown rs (Some tag) ≡ unknown_tag_line tag
warned_if_none rs tag none = rw (untagged rs tag none) refl

pub silent_if_one : (rs : List Repository) (tag : List ℕ) (r : Repository) → Contains rs r → r.tag ≡ Some tag → warning_if_tag_unknown rs (Some tag) ≡ []
silent_if_one rs tag r at e = rw (tagged rs tag at.0 r at.1 at.2 e) refl

-- ---- what a call says

-- what holds anyway holds of a success
pub on_ok : {T E P : Type 0} (result : Result T E) → P → OnOk result P
on_ok (Ok value) p = p
on_ok (Err fault) p = tt
