-- The size of a value's payload, and the number of values in it: the root, and every entry of the lists. What counts as
-- a value is defined in `docs/formats.md`, "Canonical layout" ("A payload has at most").
use Rattle.std.specs.Prelude.{ℕ, ◌+◌, length}
use Rattle.adb_view.specs.Plain.{Plain, null, int, blob, arr, obj, Plains, none, more, count_of}
use Rattle.adb_write.specs.Canonical.{Layout, canonical}

-- how many bytes the payload of a value has
abbrev pub payload_size_of : Plain → ℕ
payload_size_of v = length (canonical v)

-- how many entries all lists in a value have, the value itself included if it is a list
unfoldable mutual
  pub entries_of : Plain → ℕ
  entries_of null = 0
  entries_of (int n) = 0
  entries_of (blob b) = 0
  entries_of (arr vs) = count_of vs + entries_of_all vs
  entries_of (obj vs) = count_of vs + entries_of_all vs

  -- how many entries all lists in these values have
  pub entries_of_all : Plains → ℕ
  entries_of_all none = 0
  entries_of_all (more v vs) = entries_of v + entries_of_all vs

-- how many values a value has: itself, and all values below it
abbrev pub value_count : Plain → ℕ
value_count v = 1 + entries_of v

-- a layout whose count of values is n more, with the same items
abbrev pub with_value_count_raised : ℕ → Layout → Layout
with_value_count_raised n out = record out { values = out.values + n }
