use Rattle.std.proofs.Common.{◌∙◌, List, subst, sym}
use Rattle.std.specs.Prelude.{◌&&◌}
use Rattle.dep_core.specs.Dependency.{Dependency}
use Rattle.dep_core.specs.Meets.{dependency}
use Rattle.search_choices.specs.candidate_core.Candidates.{meets_dependency}
use Rattle.search_choices.specs.candidate_core.Options.{IsIn}
use Rattle.search_choices.proofs.search_tables.Places.{there_is}
use Rattle.search_choices.proofs.search_tables.Satisfying.{one_any}
use Rattle.solve_core.proofs.pool_rules.has_conflict_met_by.Goals as goal

pub returns-then-is_conflict_met_by : goal.returns-then-is_conflict_met_by
returns-then-is_conflict_met_by c = λ _.
    let d : Dependency = dependency c.get.result in
    let inside : IsIn d c.args.details.now.depends = subst (λ (z : List Dependency). IsIn d z) c.depends-depends.ensures (there_is c.depends-depends.result _ d c.get.ensures).1 in
    one_any (λ (e : Dependency). e.conflict && meets_dependency e c.args.other.now) c.args.details.now.depends d inside (sym c.is_conflict_met_by.ensures ∙ c.if-is_conflict_met_by.true)
