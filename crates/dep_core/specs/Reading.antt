-- Which dependency a text denotes, if any. The rules are in `docs/formats.md`, "Dependencies", the
-- paragraph of the text of a dependency. A definition `dependency_from_X` parses a text that begins
-- with the part X of the grammar, and `dependency_after_X` one that begins after X. Their argument
-- `d` is the dependency as parsed so far.
use Rattle.std.specs.Prelude.{ℕ, ◌==◌, Bool, true, false, not, ◌&&◌, ◌||◌, if◌then◌else◌, List, [], ◌∷◌, ◌++◌, drop, codes, Option, Some, None, is_some}
use Rattle.std.specs.List.{prefix_len, take_while}
use Rattle.std.specs.Map.{lookup}
use Rattle.std.specs.Str.{bytes_eq}
use Rattle.version_core.specs.Order.{is_version}
use Rattle.dep_core.specs.Dependency.{Dependency, dependency_from_parts, is_name_byte, is_dependency_name_by_bytes_and_length, is_tag_byte, is_tag, operators}

-- the text without its longest prefix of bytes that all have the property `p`
abbrev pub without_leading_bytes : (ℕ → Bool) → List ℕ → List ℕ
without_leading_bytes p text = drop (prefix_len p text) text

-- whether a byte occurs in operators: `<`, `=`, `>` or `~`
abbrev pub is_operator_byte : ℕ → Bool
is_operator_byte b = (b == 60) || (b == 61) || (b == 62) || (b == 126)

-- the match bits of the operator with this text, if it is an operator; `=~` and `~=` are other texts of `~`
abbrev pub operator_bits : List ℕ → Option ℕ
operator_bits text = lookup (bytes_eq text) (operators ++ ((codes "=~", 9) ∷ (codes "~=", 9) ∷ []))

-- whether a byte is not the `@` (64) that precedes a tag
abbrev pub is_not_at_sign : ℕ → Bool
is_not_at_sign b = not (b == 64)

-- the dependency on any version of the package `name`; its match bits are 1, those of the operator `=`
abbrev pub dependency_on_any_version : Bool → List ℕ → Dependency
dependency_on_any_version conflict name = dependency_from_parts name None 1 conflict None

-- a dependency with this tag in place of its own
abbrev pub with_tag : Dependency → List ℕ → Dependency
with_tag d tag = dependency_from_parts d.name d.version d.bits d.conflict (Some tag)

-- a dependency with this wanted version and these match bits in place of its own
abbrev pub with_constraint : Dependency → List ℕ → ℕ → Dependency
with_constraint d version bits = dependency_from_parts d.name (Some version) bits d.conflict d.tag

-- parses the text after the version: it is empty, or it is `@` (64) and a tag; a tag is refused
-- here if one followed the name
unfoldable pub dependency_after_version : Dependency → List ℕ → Option Dependency
dependency_after_version d [] = Some d
dependency_after_version d (b ∷ tag) =
    if (b == 64) && (not (is_some d.tag) && is_tag tag) then Some (with_tag d tag) else None

-- parses the text after an operator with these match bits: a version up to the first `@`, and then a tag or nothing
unfoldable pub dependency_from_version_onward : Dependency → ℕ → List ℕ → Option Dependency
dependency_from_version_onward d bits text =
    if is_version (take_while is_not_at_sign text)
    then dependency_after_version (with_constraint d (take_while is_not_at_sign text) bits)
    (without_leading_bytes is_not_at_sign text)
    else None

-- parses the text after the bytes of an operator, given their match bits; None if these bytes are
-- no operator
abbrev pub dependency_after_operator : Dependency → Option ℕ → List ℕ → Option Dependency
dependency_after_operator d None text = None
dependency_after_operator d (Some bits) text = dependency_from_version_onward d bits text

-- parses the text after the name and its tag: it is empty, or it begins with an operator
unfoldable pub dependency_from_operator_onward : Dependency → List ℕ → Option Dependency
dependency_from_operator_onward d [] = Some d
dependency_from_operator_onward d (b ∷ rest) =
    dependency_after_operator d (operator_bits (take_while is_operator_byte (b ∷ rest)))
    (without_leading_bytes is_operator_byte (b ∷ rest))

-- parses the text after the `@` that follows the name: a tag, and then an operator with a version, or nothing
unfoldable pub dependency_from_tag_onward : Dependency → List ℕ → Option Dependency
dependency_from_tag_onward d text =
    if is_tag (take_while is_tag_byte text)
    then dependency_from_operator_onward (with_tag d (take_while is_tag_byte text))
    (without_leading_bytes is_tag_byte text)
    else None

-- parses the text after the name: `@` (64) and a tag if it begins with `@`, otherwise an operator
-- or nothing
unfoldable pub dependency_after_name : Dependency → List ℕ → Option Dependency
dependency_after_name d [] = Some d
dependency_after_name d (b ∷ rest) =
    if b == 64 then dependency_from_tag_onward d rest else dependency_from_operator_onward d (b ∷ rest)

-- parses a text that begins with the name; `conflict` says whether a `!` preceded the name
unfoldable pub dependency_from_name_onward : Bool → List ℕ → Option Dependency
dependency_from_name_onward conflict text =
    if is_dependency_name_by_bytes_and_length (take_while is_name_byte text)
    then dependency_after_name (dependency_on_any_version conflict (take_while is_name_byte text))
    (without_leading_bytes is_name_byte text)
    else None

-- the dependency that a text denotes, or None if it denotes none; a leading `!` (33) makes it a
-- conflict
unfoldable pub dependency_of : List ℕ → Option Dependency
dependency_of [] = None
dependency_of (b ∷ rest) =
    if b == 33 then dependency_from_name_onward true rest else dependency_from_name_onward false (b ∷ rest)
