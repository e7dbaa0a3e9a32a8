use Rattle.std.proofs.Common.{◌≡◌, sym, subst}
use Rattle.std.specs.Prelude.{IfOk}
use Rattle.dep_core.specs.Meets.{dependency}
use Rattle.pool_core.specs.Marks.{affects}
use Rattle.pool_core.specs.declared.marks.Effect.{Effect}
use Rattle.pool_core.proofs.marks.affects.Goals as goal

pub returns-in-Bar-clause-affects : goal.returns-in-Bar-clause-affects
returns-in-Bar-clause-affects c =
    subst (λ (e : Effect). IfOk c.bars.result (λ answer. answer ≡ affects e (dependency c.args.entry.now) c.args.one.now)) (sym c.in-Bar.is) c.bars.ensures.bars
