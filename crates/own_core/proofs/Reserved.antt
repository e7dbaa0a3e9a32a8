-- No name that is written is reserved where no package that comes lists a reserved path.
use Rattle.std.proofs.Common.{◌≡◌, inl, inr, ◌∙◌, ℕ, Bool, true, false, List, [], ◌∷◌, ◌++◌, length, take, Option, Some, None, refl, ap, sym, true≢false}
use Rattle.std.specs.Prelude.{codes, ◌==◌, not, ◌&&◌, ◌||◌, if◌then◌else◌, nat_eq}
use Rattle.std.specs.List.{filter, list_all, starts_with}
use Rattle.std.specs.Str.{bytes_eq}
use Rattle.std.proofs.lemmas.Bool.{and_from, and_parts, false_from_ne_true, or_cases, or_left, or_right}
use Rattle.std.proofs.lemmas.Slice.Eq.{bytes_eq-Decides}
use Rattle.file_guard.specs.adb_schema.Reserved.{is_at_or_below, is_at_or_below_any_of, is_reserved, reserved_names}
use Rattle.base_core.specs.Files.{Files}
use Rattle.base_core.proofs.Rising.{IsIn}
use Rattle.file_owners.specs.db_core.Members.{Listing}
use Rattle.base_core.specs.ByteOrder.{precedes, smaller_text, smallest_text}
use Rattle.own_core.specs.Fate.{apk_new_name}
use Rattle.own_core.specs.FileChange.{FileChange}
use Rattle.own_core.specs.FilesAfter.{DatabaseAndWorldAfter, database_name, text_database_name, world_name, listing_written_under_name}
use Rattle.own_core.specs.NamesAfter.{added_paths}
use Rattle.own_core.specs.PlanLists.{first_reserved_added_path_in_byte_order}
use Rattle.own_core.specs.Touched.{is_old_or_new_database_or_world_name}
use Rattle.own_core.proofs.InOrder.{in_filter}
use Rattle.own_core.proofs.OwnedFiles.{in_coming_paths, written_is}

-- ---- paths

none_smallest : (xs : List (List ℕ)) → smallest_text xs ≡ None → (q : List ℕ) → IsIn q xs → ⊥
none_smallest [] e q here = here
none_smallest (x ∷ xs) e q here = some_smaller x (smallest_text xs) e
  where
    some_if : (b : Bool) (a x : List ℕ) → (if b then Some a else Some x) ≡ None → ⊥
    some_if true a x e = (cc)
    some_if false a x e = (cc)

    some_smaller : (x : List ℕ) (o : Option (List ℕ)) → smaller_text x o ≡ None → ⊥
    some_smaller x None e = (cc)
    some_smaller x (Some a) e = some_if (precedes a x) a x e

pub unreserved_path : (change : FileChange) (path : List ℕ) → first_reserved_added_path_in_byte_order change.members ≡ None → IsIn path (added_paths change.members) → is_reserved path ≡ false
unfolding first_reserved_added_path_in_byte_order
unreserved_path change path none here =
    false_from_ne_true (is_reserved path) (λ reserved.
    none_smallest (filter is_reserved (added_paths change.members)) none path (in_filter is_reserved (added_paths change.members) path here reserved))

-- ---- names beside paths

abbrev without_dot : List ℕ → Bool
without_dot bytes = list_all (λ b. not (b == 46)) bytes

no_dot_after : (p rest : List ℕ) → without_dot (p ++ 46 ∷ rest) ≡ false
no_dot_after [] rest = refl
no_dot_after (x ∷ p) rest = by_test (not (x == 46)) (no_dot_after p rest)
  where
    by_test : (b : Bool) → without_dot (p ++ 46 ∷ rest) ≡ false → (b && without_dot (p ++ 46 ∷ rest)) ≡ false
    by_test true h = h
    by_test false h = refl

starts_before_dot : (needle p rest : List ℕ) → without_dot needle ≡ true → starts_with nat_eq (p ++ 46 ∷ rest) needle ≡ true → starts_with nat_eq p needle ≡ true
starts_before_dot [] [] rest plain h = refl
starts_before_dot [] (x ∷ p) rest plain h = refl
starts_before_dot (n ∷ needle) [] rest plain h = absurd (dotted (n == 46) (without_dot needle) (bytes_eq needle (take (length needle) rest)) plain h)
  where
    dotted : (b c d : Bool) → (not b && c) ≡ true → (b && d) ≡ true → ⊥
    dotted true c d plain h = true≢false (sym plain)
    dotted false c d plain h = true≢false (sym h)
starts_before_dot (n ∷ needle) (x ∷ p) rest plain h =
    let (first, more) = and_parts (n == x) (starts_with nat_eq (p ++ 46 ∷ rest) needle) h in
    let (dot, plain_more) = and_parts (not (n == 46)) (without_dot needle) plain in
    and_from (n == x) (starts_with nat_eq p needle) first (starts_before_dot needle p rest plain_more more)

abbrev is_plain : List ℕ → Bool
is_plain top = without_dot top && without_dot (top ++ codes "/")

-- below a name without a dot stands a name with an ending only if its path does
below_before_dot : (top p : List ℕ) → is_plain top ≡ true → is_at_or_below top (apk_new_name p) ≡ true → is_at_or_below top p ≡ true
below_before_dot top p plain h =
    let (whole, front) = and_parts (without_dot top) (without_dot (top ++ codes "/")) plain in
    elim (or_cases (bytes_eq (apk_new_name p) top) (starts_with nat_eq (apk_new_name p) (top ++ codes "/")) h) [
      | inl is ↦ absurd (true≢false (sym whole ∙ (ap without_dot (sym ((bytes_eq-Decides (apk_new_name p) top).0 is)) ∙ no_dot_after p (codes "apk-new"))))
      | inr starts ↦ or_right (bytes_eq p top) (starts_with nat_eq p (top ++ codes "/")) (starts_before_dot (top ++ codes "/") p (codes "apk-new") front starts)
    ]

below_any_before_dot : (tops : List (List ℕ)) (p : List ℕ) → list_all is_plain tops ≡ true → is_at_or_below_any_of tops (apk_new_name p) ≡ true → is_at_or_below_any_of tops p ≡ true
below_any_before_dot [] p plain h = h
below_any_before_dot (top ∷ tops) p plain h =
    let (this, others) = and_parts (is_plain top) (list_all is_plain tops) plain in
    elim (or_cases (is_at_or_below top (apk_new_name p)) (is_at_or_below_any_of tops (apk_new_name p)) h) [
      | inl here ↦ or_left (is_at_or_below top p) (is_at_or_below_any_of tops p) (below_before_dot top p this here)
      | inr more ↦ or_right (is_at_or_below top p) (is_at_or_below_any_of tops p) (below_any_before_dot tops p others more)
    ]

unreserved_beside : (path : List ℕ) → is_reserved path ≡ false → is_reserved (apk_new_name path) ≡ false
unreserved_beside path free =
    false_from_ne_true (is_reserved (apk_new_name path)) (λ reserved. true≢false (sym (below_any_before_dot reserved_names path refl reserved) ∙ free))

-- ---- what is written, and the records

pub written_unreserved : (change : FileChange) (files : Files) (name : List ℕ) (l : Listing) → first_reserved_added_path_in_byte_order change.members ≡ None → listing_written_under_name change files name ≡ Some l → is_reserved name ≡ false
written_unreserved change files name l none e =
    let written = written_is change files name l e in
    let free = unreserved_path change l.path none (in_coming_paths change l.path l written.comes) in
    elim written.under [
      | inl own ↦ ap is_reserved own.0 ∙ free
      | inr beside ↦ ap is_reserved beside.0 ∙ unreserved_beside l.path free
    ]

pub records_reserved : (records : DatabaseAndWorldAfter) (name : List ℕ) → is_old_or_new_database_or_world_name records name ≡ true → is_reserved name ≡ true
records_reserved records name h =
    elim (or_cases (bytes_eq name database_name) (bytes_eq name world_name || (records.takes_text_over && bytes_eq name text_database_name)) h) [
      | inl database ↦ ap is_reserved ((bytes_eq-Decides name database_name).0 database)
      | inr other ↦ elim (or_cases (bytes_eq name world_name) (records.takes_text_over && bytes_eq name text_database_name) other) [
        | inl world ↦ ap is_reserved ((bytes_eq-Decides name world_name).0 world)
        | inr text ↦ ap is_reserved ((bytes_eq-Decides name text_database_name).0 (and_parts records.takes_text_over (bytes_eq name text_database_name) text).1)
      ]
    ]
