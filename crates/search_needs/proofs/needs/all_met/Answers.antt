use Rattle.std.proofs.Common.{◌≡◌, ◌≤◌, ◌∙◌, List, true, length, sym, subst, arith, refl}
use Rattle.std.proofs.lemmas.List.{take_all}
use Rattle.dep_core.specs.Dependency.{Dependency}
use Rattle.dep_core.specs.Meets.{dependency}
use Rattle.search_needs.specs.TriggeredInstallIf.{all_met}
use Rattle.search_needs.proofs.RaiserLists.{all_met_on, one_not_met}
use Rattle.search_needs.proofs.needs.all_met.Goals as goal

pub loop-i-init : goal.loop-i-init
loop-i-init c = refl

pub returns-then-not-is_dep_met : goal.returns-then-not-is_dep_met
returns-then-not-is_dep_met c = sym (one_not_met c.args.pool.now c.args.choices.now c.args.deps.now c.loop-i.i (dependency c.get.result) c.get.ensures (sym c.is_dep_met.ensures ∙ c.if-not-is_dep_met.true))

pub loop-i-preserved : goal.loop-i-preserved
loop-i-preserved c = all_met_on c.args.pool.now c.args.choices.now c.args.deps.now c.loop-i.i (dependency c.get.result) c.get.ensures c.loop-i.invariant (sym c.is_dep_met.ensures ∙ c.if-not-is_dep_met.false)

pub returns : goal.returns
returns c =
    let deps : List Dependency = c.args.deps.now in
    let past : length deps ≤ c.loop-i.i = omega arith in
    sym (subst (λ (z : List Dependency). all_met c.args.pool.now c.args.choices.now z ≡ true) (take_all c.loop-i.i deps past) c.loop-i.invariant)
