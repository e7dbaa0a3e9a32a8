-- Which dependencies are well-formed, and the text that each of them is written as. The rules are
-- in `docs/formats.md`, "Dependencies", the paragraph of the text of a dependency.
use Rattle.std.specs.Prelude.{ℕ, ◌==◌, Bool, true, false, ◌&&◌, List, [], ◌∷◌, ◌++◌, map, Option, Some, None, is_some, unwrap_or, IsTrue}
use Rattle.std.specs.Map.{lookup}
use Rattle.version_core.specs.Order.{is_version}
use Rattle.dep_core.specs.Dependency.{Dependency, is_dependency_name_by_bytes_and_length, is_tag, operators}

-- the text of the operator that has these match bits, if there is one
abbrev pub operator_text : ℕ → Option (List ℕ)
operator_text bits = lookup (λ b. b == bits) (map (λ (o : List ℕ × ℕ). (o.1, o.0)) operators)

-- whether the wanted version and the match bits of a dependency are valid: a version is valid, and the bits are those
-- of an operator; without a version the bits are 1, those of `=`
abbrev pub is_constraint_or_none : Option (List ℕ) → ℕ → Bool
is_constraint_or_none None bits = bits == 1
is_constraint_or_none (Some version) bits = is_version version && is_some (operator_text bits)

-- whether there is no tag, or the bytes are those of a tag
abbrev pub is_tag_or_none : Option (List ℕ) → Bool
is_tag_or_none None = true
is_tag_or_none (Some tag) = is_tag tag

-- whether a dependency is valid, by the grammar: its name, its wanted version with the match bits, and its tag
abbrev pub is_dependency : Dependency → Bool
is_dependency d =
    is_dependency_name_by_bytes_and_length d.name && is_constraint_or_none d.version d.bits
    && is_tag_or_none d.tag

-- the dependency is valid, by the grammar
abbrev pub IsDependency : Dependency → Type 0
IsDependency d = IsTrue (is_dependency d)

-- the text before the name: `!` (33) if the dependency is a conflict, otherwise nothing
abbrev pub conflict_mark_text : Bool → List ℕ
conflict_mark_text true = 33 ∷ []
conflict_mark_text false = []

-- the text of a tag: `@` (64) and the tag, or nothing if there is none
abbrev pub tag_text : Option (List ℕ) → List ℕ
tag_text None = []
tag_text (Some tag) = 64 ∷ tag

-- the text of the operator and the wanted version, given the version and the match bits; nothing if any version is
-- accepted (None)
abbrev pub constraint_text : Option (List ℕ) → ℕ → List ℕ
constraint_text None bits = []
constraint_text (Some version) bits = unwrap_or (operator_text bits) [] ++ version

-- the text that a dependency is written as: `!` for a conflict, the name, `@` and the tag, the
-- operator and the version
abbrev pub dep_text : Dependency → List ℕ
dep_text d =
    conflict_mark_text d.conflict ++ (d.name ++ (tag_text d.tag ++ constraint_text d.version d.bits))
