use Rattle.std.proofs.Common.{◌≡◌, take}
use Rattle.pool_core.specs.candidate_core.Options.{places_passing_counted_from}
use Rattle.query_core.specs.List.{is_list_candidate}
use Rattle.query_core.proofs.list_query.listed_places.Given as goal

abbrev pub invariant-loop-number : goal.invariant-loop-number
invariant-loop-number l = l.places.items ≡ places_passing_counted_from 0 (is_list_candidate l.patterns l.installed_only) (take l.number l.pool.candidates)
