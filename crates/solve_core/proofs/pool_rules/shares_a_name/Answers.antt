use Rattle.std.proofs.Common.{ℕ, List, subst}
use Rattle.dep_core.specs.Dependency.{Dependency}
use Rattle.dep_core.specs.Meets.{dependency}
use Rattle.search_choices.specs.candidate_core.Candidates.{occupies_name}
use Rattle.search_choices.specs.candidate_core.Options.{IsIn}
use Rattle.search_choices.specs.search_tables.Selection.{occupied_names}
use Rattle.search_choices.proofs.search_tables.Excluders.{occupied_by_entry}
use Rattle.search_choices.proofs.search_tables.Places.{there_is}
use Rattle.search_choices.proofs.search_tables.Satisfying.{one_any}
use Rattle.solve_core.proofs.pool_rules.shares_a_name.Goals as goal

pub returns-then-occupies_provided : goal.returns-then-occupies_provided
returns-then-occupies_provided c = λ _.
    let yes = c.if-occupies_provided.true in
    let d : Dependency = dependency c.get.result in
    let inside : IsIn d c.args.details.now.provides = subst (λ (z : List Dependency). IsIn d z) c.provides-provides.ensures (there_is c.provides-provides.result _ d c.get.ensures).1 in
    one_any (λ (name : List ℕ). occupies_name name c.args.other.now) (occupied_names c.args.details.now) d.name
    (occupied_by_entry c.args.details.now d inside (c.occupies_provided.ensures.plain yes) (c.occupies_provided.ensures.versioned yes))
    (c.occupies_provided.ensures.occupied yes)
