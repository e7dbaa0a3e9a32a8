-- Which dependency a value of a package's information denotes, if any. The rules are in
-- `docs/formats.md`, "Dependencies", the paragraph of the value in a package.
use Rattle.std.specs.Prelude.{ℕ, ◌+◌, ◌%◌, ◌==◌, nat_lt, not, ◌&&◌, ◌||◌, if◌then◌else◌, List, [], ◌∷◌, Option, Some, None}
use Rattle.dep_core.specs.Dependency.{Dependency, is_dependency_name_by_bytes_and_length}
use Rattle.dep_core.specs.Reading.{dependency_on_any_version, with_constraint}
use Rattle.dep_core.specs.Value.{is_match_number, is_version_or_empty}

-- the match bits of a dependency, given the low four bits of a match number. 7 and 15 accept any version (None), and 0
-- counts as 1. 8, 10 and 12, which match fuzzily, count as 9, 11 and 13, which accept equal versions too
abbrev pub match_bits_of_low_bits_unless_any_version : ℕ → Option ℕ
match_bits_of_low_bits_unless_any_version low =
    if (low == 7) || (low == 15) then None else
    if low == 0 then Some 1 else
    if (low == 8) || ((low == 10) || (low == 12)) then Some (low + 1) else
    Some low

-- the dependency with this wanted version and these match bits; unchanged if the version is empty
-- or there are no match bits
abbrev pub with_constraint_if_version_and_match_bits : Dependency → List ℕ → Option ℕ → Dependency
with_constraint_if_version_and_match_bits d [] bits = d
with_constraint_if_version_and_match_bits d (b ∷ rest) None = d
with_constraint_if_version_and_match_bits d (b ∷ rest) (Some bits) = with_constraint d (b ∷ rest) bits

-- the dependency that a name, a version and a match number denote, or None if one of them is not
-- allowed; from 16 on it is a conflict
unfoldable pub dependency_of_value : List ℕ → List ℕ → ℕ → Option Dependency
dependency_of_value name version matching =
    if is_dependency_name_by_bytes_and_length name
    && (is_version_or_empty version && is_match_number matching) then
    Some (with_constraint_if_version_and_match_bits
    (dependency_on_any_version (not (nat_lt matching 16)) name) version
    (match_bits_of_low_bits_unless_any_version (matching % 16)))
    else None
