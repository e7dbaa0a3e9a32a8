-- Which dependency a `Dep` of the program represents, and which packages meet a dependency. The rule is in
-- `docs/formats.md`, "Dependencies", the last paragraph.
use Rattle.std.specs.Prelude.{ℕ, Bool, true, false, ◌&&◌, List, Option, Some, None, option_copied}
use Rattle.std.specs.Str.{bytes_eq}
use Rattle.version_core.specs.Matching.{matches}
use Rattle.dep_core.specs.declared.dep.Dep.{Dep}
use Rattle.dep_core.specs.Dependency.{Dependency, dependency_from_parts}

-- the dependency that a `Dep` represents
abbrev pub dependency : Dep → Dependency
dependency dep = dependency_from_parts dep.name.now dep.version dep.op dep.conflict (option_copied dep.tag)

-- whether a constraint (the wanted version, and the match bits) accepts the version `found` of a package. Without a
-- wanted version, any version and no version are accepted. Otherwise there must be a version, and it must match
abbrev pub constraint_accepts : Option (List ℕ) → ℕ → Option (List ℕ) → Bool
constraint_accepts None bits found = true
constraint_accepts (Some wanted) bits None = false
constraint_accepts (Some wanted) bits (Some found) = matches bits found wanted

-- whether a package with this name and this version, if it has one, meets the dependency; whether
-- the dependency is a conflict does not matter
abbrev pub meets : Dependency → List ℕ → Option (List ℕ) → Bool
meets d name version = bytes_eq d.name name && constraint_accepts d.version d.bits version
