use Rattle.std.proofs.Common.{◌≡◌, ◌∙◌, List, ap, subst, sym}
use Rattle.dep_core.specs.Dependency.{Dependency}
use Rattle.dep_core.specs.Meets.{dependency}
use Rattle.search_choices.specs.candidate_core.Options.{IsIn}
use Rattle.search_choices.specs.candidate_core.Rank.{SelectionProblem}
use Rattle.search_choices.proofs.search_tables.Places.{there_is}
use Rattle.solve_core.proofs.pool_rules.add_world.Goals as goal

pub add_entry-requires : goal.add_entry-requires
add_entry-requires c =
    let d : Dependency = dependency c.entry.result in
    let same : c.world-world.result.now ≡ c.loop-i.known.world = c.world-world.ensures ∙ ap (λ (p : SelectionProblem). p.world) (sym c.loop-i.invariant) in
    subst (λ (z : List Dependency). IsIn d z) same (there_is c.world-world.result.now _ d c.entry.ensures).1
