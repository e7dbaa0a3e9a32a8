-- Whether an entry of provides is one for which `search` prints a candidate.
-- No rule of a document: serves the contracts of `src/search_query.rt`.
use Rattle.std.specs.Prelude.{Bool, not, ◌&&◌, List}
use Rattle.command_core.specs.declared.operands.Operand.{Operand}
use Rattle.dep_core.specs.Dependency.{Dependency}
use Rattle.query_core.specs.Search.{is_part_of_name_matched_by_some_pattern}

-- whether an entry is no conflict, and one of the patterns matches some part of its name
abbrev pub is_provides_entry_found : List Operand → Dependency → Bool
is_provides_entry_found patterns p =
    not p.conflict && is_part_of_name_matched_by_some_pattern patterns p.name
