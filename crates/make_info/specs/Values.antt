-- Optional values, and lists of values.
-- The rules are in `docs/formats.md`, "Values": an entry may be Null. It serves the definitions of
-- values of this crate and of others that write containers.
use Rattle.std.specs.Prelude.{ℕ, ◌==◌, if◌then◌else◌, List, [], ◌∷◌, Option, Some, None}
use Rattle.adb_view.specs.Plain.{Plain, null, int, Plains, none, more}

-- values in the form in which an object or an array has them
abbrev pub plains_of_list : List Plain → Plains
plains_of_list [] = none
plains_of_list (v ∷ vs) = more v (plains_of_list vs)

-- the plain value of a size; one of 0 is Null
abbrev pub size_or_null_if_zero : ℕ → Plain
size_or_null_if_zero n = if n == 0 then null else int n

-- the plain value of an optional number; Null if there is none
abbrev pub number_or_null : Option ℕ → Plain
number_or_null None = null
number_or_null (Some n) = int n
