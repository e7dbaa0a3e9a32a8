use Rattle.std.proofs.Common.{◌∙◌, sym}
use Rattle.dep_core.specs.Meets.{dependency}
use Rattle.unmet_world.proofs.Excluding.{by_conflict, by_conflict_back, by_name, some_copied}
use Rattle.unmet_world.proofs.exclusion.exclude_each_other.Goals as goal

pub returns-then-is_some : goal.returns-then-is_some
returns-then-is_some c = λ is.
    by_conflict c.args.pool.now c.args.a c.args.b (sym c.eq.ensures ∙ c.if-eq.false) dependency c.conflict_between.result c.conflict_between.ensures (sym c.is_some.ensures ∙ c.if-is_some.true)

pub returns-then-is_some-2 : goal.returns-then-is_some-2
returns-then-is_some-2 c = λ is.
    by_conflict_back c.args.pool.now c.args.a c.args.b (sym c.eq.ensures ∙ c.if-eq.false) dependency c.conflict_between-2.result c.conflict_between-2.ensures (sym c.is_some-2.ensures ∙ c.if-is_some-2.true)

pub returns : goal.returns
returns c = λ is.
    by_name c.args.pool.now c.args.a c.args.b (sym c.eq.ensures ∙ c.if-eq.false) (some_copied c.shared_name_at_places.result _ c.shared_name_at_places.ensures (sym c.is_some-3.ensures ∙ is))
