-- Worked payloads: what the definitions say of them, by computation.
use Rattle.std.proofs.Common.{◌≡◌, ℕ, true, List, [], ◌∷◌, Some, None, Ok, Err, refl}
use Rattle.std.specs.Prelude.{codes}
use Rattle.std.specs.List.{list_all}
use Rattle.adb_view.specs.Bytes.{words}
use Rattle.adb_view.specs.Head.{payload_head_fault, root_word_of_payload}
use Rattle.adb_view.specs.Readers.{int_of, blob_of, run_entries_of_kind_in_payload_at_word, ARRAY, OBJECT}
use Rattle.adb_view.specs.Plain.{Plain, null, int, blob, arr, obj, none, more, Shape, number, text, array, object, no_fields, field, plain_of, root_value_with_shape}
use Rattle.adb_view.specs.Visits.{visits, is_sound_visit}
use Rattle.base_core.specs.declared.cause.Cause.TheVariants.{Outside, WrongKind, Truncated, CompatVersion}

-- the fields of a package that are in the payloads below, and those of an intent
abbrev package_shape : Shape
package_shape = object 7 (field (codes "info") (object 3 (field (codes "name") text (field (codes "version") text no_fields))) (field (codes "paths") (array text) no_fields))

abbrev intent_shape : Shape
intent_shape = object 10 (field (codes "removals") (array text) (field (codes "writes") (array text) no_fields))

-- a package with the name `a` and the version `1`
abbrev a_package : Plain
a_package = obj (more (obj (more (blob (codes "a")) (more (blob (codes "1")) none))) none)

abbrev texts_first : List ℕ
texts_first = 0 ∷ 0 ∷ 0 ∷ 0 ∷ 24 ∷ 0 ∷ 0 ∷ 224 ∷ 1 ∷ 97 ∷ 1 ∷ 49 ∷ 3 ∷ 0 ∷ 0 ∷ 0 ∷ 8 ∷ 0 ∷ 0 ∷ 128 ∷ 10 ∷ 0 ∷ 0 ∷ 128 ∷ 2 ∷ 0 ∷ 0 ∷ 0 ∷ 12 ∷ 0 ∷ 0 ∷ 224 ∷ []

texts_first-head : payload_head_fault texts_first ≡ None
texts_first-head = refl

texts_first-root : root_word_of_payload texts_first ≡ 0xe0000018
texts_first-root = refl

texts_first-value : root_value_with_shape texts_first package_shape ≡ Some a_package
unfolding plain_of run_entries_of_kind_in_payload_at_word blob_of int_of words
texts_first-value = refl

texts_first-sound : list_all (is_sound_visit texts_first) (visits texts_first package_shape (root_word_of_payload texts_first)) ≡ true
unfolding visits run_entries_of_kind_in_payload_at_word blob_of int_of words
texts_first-sound = refl

-- the last text ends at the payload's end
abbrev texts_last : List ℕ
texts_last = 0 ∷ 0 ∷ 0 ∷ 0 ∷ 8 ∷ 0 ∷ 0 ∷ 224 ∷ 2 ∷ 0 ∷ 0 ∷ 0 ∷ 16 ∷ 0 ∷ 0 ∷ 224 ∷ 3 ∷ 0 ∷ 0 ∷ 0 ∷ 28 ∷ 0 ∷ 0 ∷ 128 ∷ 30 ∷ 0 ∷ 0 ∷ 128 ∷ 1 ∷ 97 ∷ 1 ∷ 49 ∷ []

texts_last-value : root_value_with_shape texts_last package_shape ≡ Some a_package
unfolding plain_of run_entries_of_kind_in_payload_at_word blob_of int_of words
texts_last-value = refl

texts_last-blob : blob_of texts_last 0x8000001e ≡ Ok (codes "1")
unfolding blob_of
texts_last-blob = refl

-- and here one byte past it
abbrev one_byte_short : List ℕ
one_byte_short = 0 ∷ 0 ∷ 0 ∷ 0 ∷ 8 ∷ 0 ∷ 0 ∷ 224 ∷ 2 ∷ 0 ∷ 0 ∷ 0 ∷ 16 ∷ 0 ∷ 0 ∷ 224 ∷ 3 ∷ 0 ∷ 0 ∷ 0 ∷ 28 ∷ 0 ∷ 0 ∷ 128 ∷ 30 ∷ 0 ∷ 0 ∷ 128 ∷ 1 ∷ 97 ∷ 2 ∷ 49 ∷ []

one_byte_short-blob : blob_of one_byte_short 0x8000001e ≡ Err (Outside 0x8000001e)
unfolding blob_of
one_byte_short-blob = refl

one_byte_short-int : int_of one_byte_short 0x8000001e ≡ Err (WrongKind 0x8000001e)
unfolding int_of
one_byte_short-int = refl

one_byte_short-value : root_value_with_shape one_byte_short package_shape ≡ None
unfolding plain_of run_entries_of_kind_in_payload_at_word blob_of int_of words
one_byte_short-value = refl

-- an intent with the one write `a`: its first field is NULL
abbrev one_write : List ℕ
one_write = 0 ∷ 0 ∷ 0 ∷ 0 ∷ 20 ∷ 0 ∷ 0 ∷ 224 ∷ 1 ∷ 97 ∷ 0 ∷ 0 ∷ 2 ∷ 0 ∷ 0 ∷ 0 ∷ 8 ∷ 0 ∷ 0 ∷ 128 ∷ 3 ∷ 0 ∷ 0 ∷ 0 ∷ 0 ∷ 0 ∷ 0 ∷ 0 ∷ 12 ∷ 0 ∷ 0 ∷ 208 ∷ []

one_write-value : root_value_with_shape one_write intent_shape ≡ Some (obj (more null (more (arr (more (blob (codes "a")) none)) none)))
unfolding plain_of run_entries_of_kind_in_payload_at_word blob_of int_of words
one_write-value = refl

-- an array of NULLs is a list of Nulls, and an object that ends in NULLs loses them
abbrev nulls_within : List ℕ
nulls_within = 0 ∷ 0 ∷ 0 ∷ 0 ∷ 20 ∷ 0 ∷ 0 ∷ 224 ∷ 3 ∷ 0 ∷ 0 ∷ 0 ∷ 0 ∷ 0 ∷ 0 ∷ 0 ∷ 0 ∷ 0 ∷ 0 ∷ 0 ∷ 2 ∷ 0 ∷ 0 ∷ 0 ∷ 8 ∷ 0 ∷ 0 ∷ 208 ∷ []

nulls_within-array : plain_of nulls_within (array text) 0xd0000008 ≡ Some (arr (more null (more null none)))
unfolding plain_of run_entries_of_kind_in_payload_at_word blob_of int_of words
nulls_within-array = refl

nulls_within-value : root_value_with_shape nulls_within intent_shape ≡ Some (obj (more (arr (more null (more null none))) none))
unfolding plain_of run_entries_of_kind_in_payload_at_word blob_of int_of words
nulls_within-value = refl

nulls_within-object : plain_of nulls_within intent_shape 0xe0000008 ≡ Some null
unfolding plain_of run_entries_of_kind_in_payload_at_word blob_of int_of words
nulls_within-object = refl

-- an empty text between NULLs and an integer: entries past the fields are not read
abbrev empty_text : List ℕ
empty_text = 0 ∷ 0 ∷ 0 ∷ 0 ∷ 12 ∷ 0 ∷ 0 ∷ 224 ∷ 0 ∷ 0 ∷ 0 ∷ 0 ∷ 4 ∷ 0 ∷ 0 ∷ 0 ∷ 8 ∷ 0 ∷ 0 ∷ 128 ∷ 0 ∷ 0 ∷ 0 ∷ 0 ∷ 12 ∷ 0 ∷ 0 ∷ 16 ∷ []

empty_text-entries : run_entries_of_kind_in_payload_at_word OBJECT empty_text 0xe000000c ≡ Ok (0x80000008 ∷ 0 ∷ 0x1000000c ∷ [])
unfolding run_entries_of_kind_in_payload_at_word words
empty_text-entries = refl

empty_text-value : root_value_with_shape empty_text (object 1 (field (codes "name") text (field (codes "version") text no_fields))) ≡ Some null
unfolding plain_of run_entries_of_kind_in_payload_at_word blob_of int_of words
empty_text-value = refl

empty_text-number : root_value_with_shape empty_text (object 1 (field (codes "name") text (field (codes "version") text (field (codes "match") number no_fields)))) ≡ Some (obj (more null (more null (more (int 12) none))))
unfolding plain_of run_entries_of_kind_in_payload_at_word blob_of int_of words
empty_text-number = refl

-- a run that counts no word, and one that is its own entry
no_words : run_entries_of_kind_in_payload_at_word OBJECT (0 ∷ 0 ∷ 0 ∷ 0 ∷ 8 ∷ 0 ∷ 0 ∷ 224 ∷ 0 ∷ 0 ∷ 0 ∷ 0 ∷ []) 0xe0000008 ≡ Err (Outside 0xe0000008)
unfolding run_entries_of_kind_in_payload_at_word
no_words = refl

its_own_entry : run_entries_of_kind_in_payload_at_word ARRAY (0 ∷ 0 ∷ 0 ∷ 0 ∷ 8 ∷ 0 ∷ 0 ∷ 208 ∷ 2 ∷ 0 ∷ 0 ∷ 0 ∷ 8 ∷ 0 ∷ 0 ∷ 208 ∷ []) 0xd0000008 ≡ Ok (0xd0000008 ∷ [])
unfolding run_entries_of_kind_in_payload_at_word words
its_own_entry = refl

seven_bytes : payload_head_fault (0 ∷ 0 ∷ 0 ∷ 0 ∷ 24 ∷ 0 ∷ 0 ∷ []) ≡ Some (Truncated 0)
seven_bytes = refl

another_version : payload_head_fault (1 ∷ 0 ∷ 0 ∷ 0 ∷ 24 ∷ 0 ∷ 0 ∷ 224 ∷ []) ≡ Some CompatVersion
another_version = refl
