use Rattle.std.proofs.Common.{◌∙◌}
use Rattle.dep_core.specs.Meets.{dependency}
use Rattle.search_tables.specs.candidate_core.Candidates.{entry}
use Rattle.search_needs.proofs.RaiserLists.{is_met_by}
use Rattle.search_needs.proofs.held_deps.is_held_met.Goals as goal

pub returns-clause-met : goal.returns-clause-met
returns-clause-met c = c.is_some.ensures ∙ is_met_by c.args.pool.now c.args.choices.now (entry (dependency c.args.held.now.dep.now)) c.in_ok-found.found c.in_ok-found.ensures.found
