-- All texts of a dependency, defined independently of how texts are read. The rules are in `docs/formats.md`,
-- "Dependencies": the tag may follow the name or the version, and the operator `~` has two more texts.
use Rattle.std.specs.Prelude.{◌≡◌, ℕ, List, [], ◌++◌, Option, Some, None, ◌⊎◌}
use Rattle.dep_core.specs.Dependency.{Dependency}
use Rattle.dep_core.specs.DependencyText.{IsDependency, conflict_mark_text, tag_text}
use Rattle.dep_core.specs.Reading.{operator_bits}

-- the text is one of a version constraint: an operator with these match bits, and the version; or nothing if any
-- version is accepted (None)
abbrev pub SpellsConstraint : List ℕ → Option (List ℕ) → ℕ → Type 0
SpellsConstraint text None bits = text ≡ []
SpellsConstraint text (Some version) bits =
    (operator : List ℕ) × (operator_bits operator ≡ Some bits) × (text ≡ operator ++ version)

-- the text is one of the valid dependency d; `limit` is the text of its version constraint, and the tag follows the
-- name or this constraint
abbrev pub SpellsDependency : List ℕ → Dependency → Type 0
SpellsDependency text d =
    IsDependency d × ((limit : List ℕ) × SpellsConstraint limit d.version d.bits
    × ((text ≡ conflict_mark_text d.conflict ++ (d.name ++ (tag_text d.tag ++ limit)))
    ⊎ (text ≡ conflict_mark_text d.conflict ++ (d.name ++ (limit ++ tag_text d.tag)))))
