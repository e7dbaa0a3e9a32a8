use Rattle.std.proofs.Common.{◌++◌, List, ℕ, ap, subst, ◌∙◌}
use Rattle.std.proofs.lemmas.Result.{IfOk-from_err}
use Rattle.dep_core.specs.Dependency.{Dependency}
use Rattle.dep_core.specs.DependencyText.{dep_text}
use Rattle.dep_core.specs.World.{IsWorldSortedByName, world_text}
use Rattle.dep_core.proofs.WorldText.{text_more, text_whole, text_made}
use Rattle.dep_core.proofs.world.World.text.Goals as goal

pub loop-entry-init : goal.loop-entry-init
loop-entry-init c = ap (λ (x : List ℕ). x ++ world_text c.deref-entry-items.result.now) c.new-text.ensures.items

pub loop-entry-preserved : goal.loop-entry-preserved
loop-entry-preserved c =
    text_more _ c.loop-entry.entry-index c.entry-item.result c.loop-entry.text.items c.append_dep.new.text.items c.push.new.self.items c.loop-entry-test.true c.entry-item.is
    (c.in_ok-append_dep.ensures ∙ ap (λ (d : Dependency). c.loop-entry.text.items ++ dep_text d) c.dep.ensures) c.in_ok-push.ensures.items c.loop-entry.invariant

pub returns-in_err-append_dep-clause-text : goal.returns-in_err-append_dep-clause-text
returns-in_err-append_dep-clause-text c = IfOk-from_err c.from_residual.result _ c.from_residual.ensures.0

pub returns-in_err-append_dep-clause-world : goal.returns-in_err-append_dep-clause-world
returns-in_err-append_dep-clause-world c = subst IsWorldSortedByName c.self.view_is c.self.invariant

pub returns-in_err-push-clause-text : goal.returns-in_err-push-clause-text
returns-in_err-push-clause-text c = IfOk-from_err c.from_residual-in_err-push.result _ c.from_residual-in_err-push.ensures.0

pub returns-in_err-push-clause-world : goal.returns-in_err-push-clause-world
returns-in_err-push-clause-world c = subst IsWorldSortedByName c.self.view_is c.self.invariant

pub returns-clause-text : goal.returns-clause-text
returns-clause-text c =
    let es : List Dependency = c.deref-entry-items.result.now in
    text_made c.of.result _ _
    (c.deref.ensures.value ∙ text_whole es c.loop-entry.entry-index c.loop-entry.text.items c.loop-entry-test.false c.loop-entry.invariant ∙ ap world_text (c.deref-entry-items.ensures.value ∙ c.self.view_is))
    c.of.ensures

pub returns-clause-world : goal.returns-clause-world
returns-clause-world c = subst IsWorldSortedByName c.self.view_is c.self.invariant
