use Rattle.std.proofs.Common.{refl, sym, ◌∙◌}
use Rattle.version_core.proofs.Places.{follows_at_end, leads_itself}
use Rattle.version_core.proofs.overlapping.OverlappingVersions.is_passed.Goals as goal

pub loop-place-init : goal.loop-place-init
loop-place-init c = record {
  bytes = refl;
  within = c.requires.order;
  same = refl;
  leads = λ before. leads_itself c.args.self.now c.args.first;
}

pub returns-clause-value : goal.returns-clause-value
returns-clause-value c = sym (c.loop-place.invariant.same ∙ follows_at_end c.args.self.now c.loop-place.place c.args.end c.loop-place-test.false)
