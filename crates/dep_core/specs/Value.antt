-- Dependencies in a package's information: a name, a version and a match number. The match number is
-- the match bits of the operator, and 16 more for a conflict. The rules are in `docs/formats.md`,
-- "Dependencies", the paragraph of the value in a package; the three fields are those of "Schemas",
-- table 1.
use Rattle.std.specs.Prelude.{ℕ, ◌+◌, ◌%◌, ◌==◌, nat_lt, Bool, true, false, ◌&&◌, if◌then◌else◌, List, [], ◌∷◌, Option, Some, None, unwrap_or}
use Rattle.version_core.specs.Order.{is_version}
use Rattle.version_core.specs.Op.{are_match_bits_below_16_except_6_and_14}
use Rattle.dep_core.specs.Dependency.{Dependency}

-- the three fields of a dependency in a package's information, as they are stored
pub record DepValue : Type 0 where
  -- the name of the dependency
  pub name : List ℕ
  -- the wanted version; empty if no version is named
  pub version : List ℕ
  -- the match number, if the field is present; an absent one counts as 0
  pub matching : Option ℕ

-- the match number that is written for a dependency, given its wanted version, its match bits and whether it is a
-- conflict. 16 marks a conflict, and the low bits 7 (so 23) accept any version. None: the field is absent, since the
-- dependency is no conflict, and its operator is `=` (1) or no version is wanted
abbrev pub match_number_of : Option (List ℕ) → ℕ → Bool → Option ℕ
match_number_of None bits true = Some 23
match_number_of None bits false = None
match_number_of (Some version) bits true = Some (16 + bits)
match_number_of (Some version) bits false = if bits == 1 then None else Some bits

-- the value of a dependency in a package's information; its tag, which only world has, is left out
abbrev pub dep_value : Dependency → DepValue
dep_value d =
    record {
      name = d.name;
      version = unwrap_or d.version [];
      matching = match_number_of d.version d.bits d.conflict;
    }

-- whether a number is a match number: it is below 32, and its low four bits are accepted as an operator
abbrev pub is_match_number : ℕ → Bool
is_match_number matching = nat_lt matching 32 && are_match_bits_below_16_except_6_and_14 (matching % 16)

-- whether a text is a version, or empty
abbrev pub is_version_or_empty : List ℕ → Bool
is_version_or_empty [] = true
is_version_or_empty (b ∷ rest) = is_version (b ∷ rest)
