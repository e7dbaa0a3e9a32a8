-- In a package whose texts keep their rules each file with contents has a digest of one of the three functions.
use Rattle.std.proofs.Common.{◌≡◌, ℕ, zero, suc, ◌+◌, ◌⊎◌, inl, inr, Bool, true, false, ◌||◌, ◌==◌, if◌then◌else◌, List, [], ◌∷◌, ◌++◌, length, Option, Some, None, refl, ap, sym, ◌∙◌, subst, arith, add-zero}
use Rattle.std.proofs.lemmas.Bool.{and_parts}
use Rattle.std.proofs.lemmas.List.Folds.{list_all-append}
use Rattle.std.proofs.lemmas.Slice.Eq.{bytes_eq-Decides}
use Rattle.std.specs.List.{list_all}
use Rattle.std.specs.Prelude.{bytes_eq}
use Rattle.sha1.specs.Sha1.{sha1}
use Rattle.sha2.specs.Sha256.{sha256}
use Rattle.sha2.specs.Sha512.{sha512}
use Rattle.base_core.specs.declared.cause.Cause.{Cause}
use Rattle.base_core.specs.declared.cause.Cause.TheVariants.{HashDiffers}
use Rattle.base_core.specs.declared.cause.Digest.{Digest}
use Rattle.base_core.specs.declared.cause.Digest.TheVariants.{Sha1, Sha256, Sha512}
use Rattle.adb_view.specs.Plain.{Plain, null, Plains, none, more, Shape, hash, array, Fields, no_fields, field}
use Rattle.adb_schema.specs.adb_fields.Repeated.{list_of, files_in}
use Rattle.adb_schema.specs.Rules.{is_digest_length, is_digest_length_or_none}
use Rattle.adb_view.specs.Schema.{shape_of, shapes_of, table}
use Rattle.adb_schema.specs.Texts.{Surroundings, Leaf, text_leaf, keeps_rule, leaves, field_leaves, leaves_of_all_values, surroundings_of_fields, surroundings_of_root, leaves_of, text_or_number_fault, is_allowed_text_of_field, is_file_with_contents, is_file_hash_needed_unless_in_database}
use Rattle.adb_schema.specs.FirstBad.{IsFirstBadLeafIfAny}
use Rattle.adb_view.specs.Values.{nth, entries_in, entry_at_index, int_in, text_in}
use Rattle.adb_view.specs.declared.tables.Which.{Which}
use Rattle.adb_view.specs.declared.tables.Kind.TheVariants.{Obj}
use Rattle.adb_view.specs.declared.tables.Which.TheVariants as Tables
use Rattle.pkg_core.specs.Contents.{Contents, ExpectedFile, fault_if_wanted_and_found_digests_differ, expected_file_if_with_contents, expected_files_of_package, expected_files_of_folder, expected_files_of_folders, fault_if_digest_is_not_of_bytes}
use Rattle.pkg_core.specs.GoodContents.{MatchEachExpectedSizeAndKnownDigest, MatchEachExpectedSizeAndDigest, HaveValidDigestLengths, IsDigestOf}

-- ---- if nothing is told, each text and number keeps its rule

-- what is told of texts, as adb_schema's law says
abbrev pub HasFirstValue : Type 0
HasFirstValue = (which : Which) (v : Plain) → IsFirstBadLeafIfAny (leaves_of which v) (text_or_number_fault which v)

abbrev Keep : List Leaf → Type 0
Keep all = list_all keeps_rule all ≡ true

none_told : (all : List Leaf) (o : Option Cause) → IsFirstBadLeafIfAny all o → o ≡ None → Keep all
none_told all None t e = t
none_told all (Some c) t e = (cc)

parts_keep : (xs ys : List Leaf) → Keep (xs ++ ys) → Keep xs × Keep ys
parts_keep xs ys h = and_parts (list_all keeps_rule xs) (list_all keeps_rule ys) (sym (list_all-append keeps_rule xs ys) ∙ h)

abbrev shape_at : Fields → ℕ → Option Shape
shape_at no_fields i = None
shape_at (field name s fs) zero = Some s
shape_at (field name s fs) (suc i) = shape_at fs i

field_keeps : (fs : Fields) (i place : ℕ) (around : Surroundings) (vs : Plains) (s : Shape) → shape_at fs i ≡ Some s → Keep (field_leaves fs place around vs) → Keep (leaves s (place + i) around (nth vs i))
unfolding leaves field_leaves
field_keeps no_fields i place around vs s e h = (cc)
field_keeps (field name t fs) zero place around none s e h =
    let same : t ≡ s = (cc) in
    subst (λ (u : Shape). Keep (leaves u (place + 0) around null)) same (subst (λ n. Keep (leaves t n around null)) (sym (add-zero place)) (parts_keep (leaves t place around null) (field_leaves fs (place + 1) around none) h).0)
field_keeps (field name t fs) zero place around (more v vs) s e h =
    let same : t ≡ s = (cc) in
    subst (λ (u : Shape). Keep (leaves u (place + 0) around v)) same (subst (λ n. Keep (leaves t n around v)) (sym (add-zero place)) (parts_keep (leaves t place around v) (field_leaves fs (place + 1) around vs) h).0)
field_keeps (field name t fs) (suc i) place around none s e h =
    let n : place + 1 + i ≡ place + suc i = omega arith in
    subst (λ m. Keep (leaves s m around null)) n (field_keeps fs i (place + 1) around none s e (parts_keep (leaves t place around null) (field_leaves fs (place + 1) around none) h).1)
field_keeps (field name t fs) (suc i) place around (more v vs) s e h =
    let n : place + 1 + i ≡ place + suc i = omega arith in
    subst (λ m. Keep (leaves s m around (nth vs i))) n (field_keeps fs i (place + 1) around vs s e (parts_keep (leaves t place around v) (field_leaves fs (place + 1) around vs) h).1)

-- ---- the digest of a file

leaf_keeps : (leaf : Leaf) → Keep (leaf ∷ []) → keeps_rule leaf ≡ true
leaf_keeps leaf h = (and_parts (keeps_rule leaf) true h).0

is_needed : (root : Which) (has_contents : Bool) (n : ℕ) → root ≡ Tables.Package → has_contents ≡ true → (if is_file_hash_needed_unless_in_database root has_contents then is_digest_length n else is_digest_length_or_none n) ≡ true → is_digest_length n ≡ true
is_needed root has_contents n e c h =
    let needed : is_file_hash_needed_unless_in_database root has_contents ≡ true = ap (λ r. is_file_hash_needed_unless_in_database r has_contents) e ∙ c in
    subst (λ b. (if b then is_digest_length n else is_digest_length_or_none n) ≡ true) needed h

file_has : (place : ℕ) (around : Surroundings) (f : Plain) → around.root ≡ Tables.Package → is_file_with_contents f ≡ true → Keep (leaves (shape_of (Obj Tables.File)) place around f) → is_digest_length (length (text_in (entry_at_index f 4))) ≡ true
unfolding shape_of leaves is_allowed_text_of_field
file_has place around f root c h =
    let leaf = field_keeps (shapes_of (table Tables.File)) 4 401 (surroundings_of_fields 4 around f) (entries_in f) hash refl h in
    is_needed around.root (is_file_with_contents f) (length (text_in (entry_at_index f 4))) root c (leaf_keeps (text_leaf 405 (surroundings_of_fields 4 around f) (text_in (entry_at_index f 4))) leaf)

-- ---- the digests of all

more_digests : (es fs : List ExpectedFile) → HaveValidDigestLengths es → HaveValidDigestLengths fs → HaveValidDigestLengths (es ++ fs)
more_digests [] fs a b = b
more_digests (e ∷ es) fs a b = (a.0, more_digests es fs a.1 b)

file_digests : (d i place : ℕ) (around : Surroundings) (f : Plain) → around.root ≡ Tables.Package → Keep (leaves (shape_of (Obj Tables.File)) place around f) → HaveValidDigestLengths (expected_file_if_with_contents d i f)
file_digests d i place around f root h = by_contents (is_file_with_contents f) refl
  where
    by_contents : (b : Bool) → is_file_with_contents f ≡ b → HaveValidDigestLengths (if b then record { folder = d; file = i; size = int_in (entry_at_index f 2); hash = text_in (entry_at_index f 4) } ∷ [] else [])
    by_contents true c = (file_has place around f root c h, tt)
    by_contents false c = tt

files_digests : (d i place : ℕ) (around : Surroundings) (vs : Plains) → around.root ≡ Tables.Package → Keep (leaves_of_all_values (leaves (shape_of (Obj Tables.File)) place around) vs) → HaveValidDigestLengths (expected_files_of_folder d i (list_of vs))
files_digests d i place around none root h = tt
files_digests d i place around (more f vs) root h =
    let parts = parts_keep (leaves (shape_of (Obj Tables.File)) place around f) (leaves_of_all_values (leaves (shape_of (Obj Tables.File)) place around) vs) h in
    more_digests (expected_file_if_with_contents d i f) (expected_files_of_folder d (i + 1) (list_of vs)) (file_digests d i place around f root parts.0) (files_digests d (i + 1) place around vs root parts.1)

folder_digests : (d place : ℕ) (around : Surroundings) (folder : Plain) → around.root ≡ Tables.Package → Keep (leaves (shape_of (Obj Tables.Dir)) place around folder) → HaveValidDigestLengths (expected_files_of_folder d 1 (files_in folder))
unfolding shape_of leaves
folder_digests d place around folder root h =
    let files = field_keeps (shapes_of (table Tables.Dir)) 2 501 (surroundings_of_fields 5 around folder) (entries_in folder) (array (shape_of (Obj Tables.File))) refl h in
    files_digests d 1 503 (surroundings_of_fields 5 around folder) (entries_in (entry_at_index folder 2)) root files

folders_digests : (i place : ℕ) (around : Surroundings) (vs : Plains) → around.root ≡ Tables.Package → Keep (leaves_of_all_values (leaves (shape_of (Obj Tables.Dir)) place around) vs) → HaveValidDigestLengths (expected_files_of_folders i (list_of vs))
folders_digests i place around none root h = tt
folders_digests i place around (more d vs) root h =
    let parts = parts_keep (leaves (shape_of (Obj Tables.Dir)) place around d) (leaves_of_all_values (leaves (shape_of (Obj Tables.Dir)) place around) vs) h in
    more_digests (expected_files_of_folder i 1 (files_in d)) (expected_files_of_folders (i + 1) (list_of vs)) (folder_digests i place around d root parts.0) (folders_digests (i + 1) place around vs root parts.1)

texts_keep : (v : Plain) → Keep (leaves_of Tables.Package v) → HaveValidDigestLengths (expected_files_of_package v)
unfolding shape_of leaves
texts_keep v h =
    let folders = field_keeps (shapes_of (table Tables.Package)) 1 701 (surroundings_of_fields 7 (surroundings_of_root Tables.Package) v) (entries_in v) (array (shape_of (Obj Tables.Dir))) refl h in
    folders_digests 1 702 (surroundings_of_fields 7 (surroundings_of_root Tables.Package) v) (entries_in (entry_at_index v 1)) refl folders

pub texts_give_digests : HasFirstValue → (v : Plain) → text_or_number_fault Tables.Package v ≡ None → HaveValidDigestLengths (expected_files_of_package v)
texts_give_digests told v h = texts_keep v (none_told (leaves_of Tables.Package v) (text_or_number_fault Tables.Package v) (told Tables.Package v) h)

-- ---- what a good digest says

equal_digests : (as_digest : List ℕ → Digest) (wanted found : List ℕ) → fault_if_wanted_and_found_digests_differ as_digest wanted found ≡ None → wanted ≡ found
equal_digests as_digest wanted found h = (bytes_eq-Decides wanted found).0 (kept (bytes_eq wanted found) h)
  where
    kept : (b : Bool) → (if b then None else Some (HashDiffers (as_digest wanted) (as_digest found))) ≡ None → b ≡ true
    kept true h = refl
    kept false h = (cc)

one_of_three : (a b c : Bool) (x y z : Option Cause) → ((a || b) || c) ≡ true → (if a then x else if b then y else if c then z else None) ≡ None → (x ≡ None) ⊎ ((y ≡ None) ⊎ (z ≡ None))
one_of_three true b c x y z h e = inl e
one_of_three false true c x y z h e = inr (inl e)
one_of_three false false true x y z h e = inr (inr e)
one_of_three false false false x y z h e = (cc)

digest_is : (wanted bytes : List ℕ) → is_digest_length (length wanted) ≡ true → fault_if_digest_is_not_of_bytes wanted bytes ≡ None → IsDigestOf wanted bytes
unfolding fault_if_digest_is_not_of_bytes
digest_is wanted bytes h e =
    elim (one_of_three (length wanted == 20) (length wanted == 32) (length wanted == 64) (fault_if_wanted_and_found_digests_differ Sha1 wanted (sha1 bytes)) (fault_if_wanted_and_found_digests_differ Sha256 wanted (sha256 bytes)) (fault_if_wanted_and_found_digests_differ Sha512 wanted (sha512 bytes)) h e) [
      | inl x ↦ inl (equal_digests Sha1 wanted (sha1 bytes) x)
      | inr y ↦ elim y [
        | inl x ↦ inr (inl (equal_digests Sha256 wanted (sha256 bytes) x))
        | inr x ↦ inr (inr (equal_digests Sha512 wanted (sha512 bytes) x))
      ]
    ]

pub true_contents : (es : List ExpectedFile) (all : List Contents) → HaveValidDigestLengths es → MatchEachExpectedSizeAndKnownDigest es all → MatchEachExpectedSizeAndDigest es all
true_contents [] [] d h = tt
true_contents [] (c ∷ cs) d h = h
true_contents (e ∷ es) [] d h = h
true_contents (e ∷ es) (c ∷ cs) d h =
    (record { folder = h.0.folder; file = h.0.file; size = h.0.size; digest = digest_is e.hash c.bytes d.0 h.0.hash }, true_contents es cs d.1 h.1)
