use Rattle.std.proofs.Common.{◌∙◌, sym}
use Rattle.dep_core.specs.Meets.{dependency}
use Rattle.search_tables.proofs.candidate_core.LoopTests.{found_first, not_found_next}
use Rattle.unmet_world.specs.Exclusion.{is_conflict_met_by}
use Rattle.unmet_world.proofs.texts.bar.Goals as goal

pub returns-then-is_conflict_met_by : goal.returns-then-is_conflict_met_by
returns-then-is_conflict_met_by c =
    sym (found_first (is_conflict_met_by c.args.details.now) c.args.world.now c.loop-i.i (dependency c.entry-dep.result) c.loop-i.invariant c.entry-dep.ensures (sym c.is_conflict_met_by.ensures ∙ c.if-is_conflict_met_by.true))

pub loop-i-preserved : goal.loop-i-preserved
loop-i-preserved c =
    not_found_next (is_conflict_met_by c.args.details.now) c.args.world.now c.loop-i.i (dependency c.entry-dep.result) c.loop-i.invariant c.entry-dep.ensures (sym c.is_conflict_met_by.ensures ∙ c.if-is_conflict_met_by.false)
