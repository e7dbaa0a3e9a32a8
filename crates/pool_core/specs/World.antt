-- The entries of world by their kinds. The rule is in `docs/selection.md`, "What there is to choose
-- from" (conflicts bar, tags allow). Serves the contracts of `src/world_marks.rt`, which reads world
-- once.
use Rattle.std.specs.Prelude.{Bool, is_some, List}
use Rattle.std.specs.List.{filter}
use Rattle.dep_core.specs.Dependency.{Dependency}
use Rattle.pool_core.specs.declared.world_marks.EntryKind.{EntryKind}
use Rattle.pool_core.specs.declared.world_marks.EntryKind.TheVariants.{Conflict, Tagged}

-- whether an entry of world is of this kind: a conflict (`Conflict`), or an entry with a tag (`Tagged`)
abbrev pub is_entry_of_kind : EntryKind → Dependency → Bool
is_entry_of_kind Conflict d = d.conflict
is_entry_of_kind Tagged d = is_some d.tag

-- the entries of world of one kind, in their order
abbrev pub entries_of_kind : EntryKind → List Dependency → List Dependency
entries_of_kind kind world = filter (is_entry_of_kind kind) world
