-- Dependencies, after apk-package(5) and apk-world(5): their parts, and which bytes these parts have. The rules are in
-- `docs/formats.md`, "Dependencies", the first two paragraphs; the match bits in "Versions", the last paragraph.
use Rattle.std.specs.Prelude.{ℕ, ◌==◌, nat_lt, nat_le, Bool, false, not, ◌&&◌, ◌||◌, List, [], ◌∷◌, length, codes, Option}
use Rattle.std.specs.Char.{is_ascii_alphanumeric}
use Rattle.std.specs.List.{list_all, list_any}

-- a dependency: what a package or world needs, or what it excludes
pub record Dependency : Type 0 where
  -- the name that is needed or excluded
  pub name : List ℕ
  -- the wanted version, if one is named
  pub version : Option (List ℕ)
  -- the match bits of the version operator: the sum of 1 for equal, 2 for less, 4 for greater, 8 for a fuzzy match; 1
  -- if no version is named
  pub bits : ℕ
  -- whether the dependency excludes the packages that meet it
  pub conflict : Bool
  -- the repository tag, as in `app@edge`, if one is given; only dependencies of world have a tag
  pub tag : Option (List ℕ)

-- a dependency from its parts
abbrev pub dependency_from_parts : List ℕ → Option (List ℕ) → ℕ → Bool → Option (List ℕ) → Dependency
dependency_from_parts name version bits conflict tag =
    record { name = name; version = version; bits = bits; conflict = conflict; tag = tag }

-- whether a byte ends a name, since no name may have it: `!`, `<`, `=`, `>`, `@` or `~`
abbrev pub is_name_end_mark : ℕ → Bool
is_name_end_mark b = (b == 33) || (b == 60) || (b == 61) || (b == 62) || (b == 64) || (b == 126)

-- whether a name may have this byte: it is from 0x21 to 0x7e, and none of those that end a name
abbrev pub is_name_byte : ℕ → Bool
is_name_byte b = nat_lt 32 b && nat_lt b 127 && not (is_name_end_mark b)

-- whether the bytes are the name of a dependency: 1 to 255 bytes, each of which a name may have
abbrev pub is_dependency_name_by_bytes_and_length : List ℕ → Bool
is_dependency_name_by_bytes_and_length name =
    nat_lt 0 (length name) && nat_le (length name) 255 && list_all is_name_byte name

-- whether the bytes begin with `-` (45) or `.` (46), as no package's name does
abbrev pub begins_with_dash_or_dot : List ℕ → Bool
begins_with_dash_or_dot [] = false
begins_with_dash_or_dot (b ∷ rest) = (b == 45) || (b == 46)

-- whether the bytes are the name of a package: a dependency's name that neither begins with `-` or `.`
-- nor has a `/` (47)
abbrev pub is_package_name : List ℕ → Bool
is_package_name name =
    is_dependency_name_by_bytes_and_length name && not (begins_with_dash_or_dot name)
    && not (list_any (λ b. b == 47) name)

-- whether a tag may have this byte: a letter, a digit, `_` (95), `-` (45) or `.` (46)
abbrev pub is_tag_byte : ℕ → Bool
is_tag_byte b = is_ascii_alphanumeric b || (b == 95) || (b == 45) || (b == 46)

-- whether the bytes are a tag: at least one byte, and only bytes that a tag may have
abbrev pub is_tag : List ℕ → Bool
is_tag tag = nat_lt 0 (length tag) && list_all is_tag_byte tag

-- the version operators: the text and the match bits of each
abbrev pub operators : List (List ℕ × ℕ)
operators =
    (codes "=", 1) ∷ (codes "<", 2) ∷ (codes "<=", 3) ∷ (codes ">", 4) ∷ (codes ">=", 5)
    ∷ (codes "~", 9)
    ∷ (codes "<~", 11) ∷ (codes ">~", 13) ∷ []
