-- Values without an integer 0, and the information of a package with another id and file size. They define what
-- `adb_copy` writes. The rules are in `docs/formats.md`, "The database after a change": "An integer 0 is NULL, at
-- every depth", and the information of an added package.
use Rattle.std.specs.Prelude.{ℕ, zero, suc, List}
use Rattle.adb_view.specs.Plain.{Plain, null, int, blob, arr, obj, Plains, none, more, blob_or_null, array_or_null, trimmed_object_or_null}
use Rattle.adb_view.specs.Values.{entries_in}

-- an integer as it is written: 0 is Null
abbrev pub int_or_null : ℕ → Plain
int_or_null zero = null
int_or_null (suc n) = int (suc n)

unfoldable mutual
  -- a value without zeros: an integer 0 in it is Null at every depth, and so is a list that then has no
  -- values
  pub without_zeros : Plain → Plain
  without_zeros null = null
  without_zeros (int n) = int_or_null n
  without_zeros (blob b) = blob_or_null b
  without_zeros (arr vs) = array_or_null (all_without_zeros vs)
  without_zeros (obj vs) = trimmed_object_or_null (all_without_zeros vs)

  -- the entries of an array or an object, each without zeros
  pub all_without_zeros : Plains → Plains
  all_without_zeros none = none
  all_without_zeros (more v vs) = more (without_zeros v) (all_without_zeros vs)

-- the values, in which `v` replaces the value at the index, counted from 0. If there are too few values, Nulls are
-- inserted before `v`
abbrev pub with_value_set_at_index : ℕ → Plain → Plains → Plains
with_value_set_at_index zero v none = more v none
with_value_set_at_index zero v (more u us) = more v us
with_value_set_at_index (suc i) v none = more null (with_value_set_at_index i v none)
with_value_set_at_index (suc i) v (more u us) = more u (with_value_set_at_index i v us)

-- the information of a package without zeros, with `id` as its field `hashes` and `len` as its field
-- `file-size`. Their indexes, 2 and 12, count from 0; table 3 of `docs/formats.md`, "Schemas", has them
-- as 3 and 13
unfoldable pub info_without_zeros_with_id_and_file_size : Plain → List ℕ → ℕ → Plain
info_without_zeros_with_id_and_file_size info id len =
    without_zeros (obj (with_value_set_at_index 12 (int len)
    (with_value_set_at_index 2 (blob id) (entries_in info))))
