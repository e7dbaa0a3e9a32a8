use Rattle.std.proofs.Common.{◌≡◌, false, take}
use Rattle.std.specs.List.{list_any}
use Rattle.query_core.specs.EntryFound.{is_provides_entry_found}
use Rattle.query_core.proofs.search_query.is_provided_name_found.Given as goal

abbrev pub invariant-loop-i : goal.invariant-loop-i
invariant-loop-i l = list_any (is_provides_entry_found l.patterns) (take l.i l.provides) ≡ false
