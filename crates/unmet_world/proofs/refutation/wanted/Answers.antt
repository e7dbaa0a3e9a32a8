use Rattle.std.proofs.Common.{◌∙◌, [], None, Some, refl, sym}
use Rattle.dep_core.specs.Meets.{dependency}
use Rattle.unmet_world.specs.declared.refutation.Owner.TheVariants.{Package, World}
use Rattle.unmet_world.proofs.Wanted.{of_package, wants_none, wants_nothing, wants_one}
use Rattle.unmet_world.proofs.refutation.wanted.Goals as goal

pub returns-then-want-len : goal.returns-then-want-len
returns-then-want-len c = λ same. wants_none c.args.pool.now c.args.want World c.args.world.now c.in-World.is same (rw c.len.ensures.value at c.if-want-len.true)

pub returns-else-want-len : goal.returns-else-want-len
returns-else-want-len c = λ same. wants_one c.args.pool.now c.args.want World c.args.world.now (dependency c.entry.result) _ c.in-World.is same c.entry.ensures c.if_positive.ensures

pub returns-in_default : goal.returns-in_default
returns-in_default c = λ same. wants_nothing c.args.pool.now c.args.want (Package c.in-Package.id) c.in-Package.is (of_package c.args.pool.now c.in-Package.id c.candidate.result None [] c.candidate.ensures (sym c.in_default.is ∙ c.at.ensures) refl)

pub returns-then-want-len-2 : goal.returns-then-want-len-2
returns-then-want-len-2 c = λ same. wants_none c.args.pool.now c.args.want (Package c.in-Package.id) c.depends-depends.result c.in-Package.is
    (of_package c.args.pool.now c.in-Package.id c.candidate.result (Some c.in-Some.details) c.depends-depends.result c.candidate.ensures (sym c.in-Some.is ∙ c.at.ensures) c.depends-depends.ensures)
    (rw c.len-in-Package.ensures at c.if-want-len-2.true)

pub returns-else-want-len-2 : goal.returns-else-want-len-2
returns-else-want-len-2 c = λ same. wants_one c.args.pool.now c.args.want (Package c.in-Package.id) c.depends-depends.result (dependency c.get.result) _ c.in-Package.is
    (of_package c.args.pool.now c.in-Package.id c.candidate.result (Some c.in-Some.details) c.depends-depends.result c.candidate.ensures (sym c.in-Some.is ∙ c.at.ensures) c.depends-depends.ensures)
    c.get.ensures c.if_positive-in-Package.ensures
