use Rattle.std.proofs.Common.{◌∙◌, refl}
use Rattle.solve_core.proofs.propagation.add_rules.Goals as goal

pub returns-in_err-add_world : goal.returns-in_err-add_world
returns-in_err-add_world c = c.add_world.ensures

pub loop-i-init : goal.loop-i-init
loop-i-init c = refl

pub returns-in_default : goal.returns-in_default
returns-in_default c = c.loop-i.invariant ∙ c.add_world.ensures

pub returns-then-not-has_room : goal.returns-then-not-has_room
returns-then-not-has_room c = c.loop-i.invariant ∙ c.add_world.ensures

pub returns-in_err-add_candidate : goal.returns-in_err-add_candidate
returns-in_err-add_candidate c = c.add_candidate.ensures ∙ (c.loop-i.invariant ∙ c.add_world.ensures)

pub loop-i-preserved : goal.loop-i-preserved
loop-i-preserved c = c.add_candidate.ensures ∙ c.loop-i.invariant

pub returns : goal.returns
returns c = c.loop-i.invariant ∙ c.add_world.ensures
