use Rattle.std.proofs.Common.{◌∙◌, sym}
use Rattle.dep_core.specs.Meets.{dependency}
use Rattle.search_tables.proofs.candidate_core.LoopTests.{found_first, not_found_next}
use Rattle.unmet_world.specs.Lines.{is_named}
use Rattle.unmet_world.proofs.texts.entry_named.Goals as goal

pub returns-then-eq : goal.returns-then-eq
returns-then-eq c =
    sym (found_first (is_named c.args.name.now) c.args.world.now c.loop-i.i (dependency c.entry-dep.result) c.loop-i.invariant c.entry-dep.ensures (sym c.eq.ensures ∙ c.if-eq.true))

pub loop-i-preserved : goal.loop-i-preserved
loop-i-preserved c =
    not_found_next (is_named c.args.name.now) c.args.world.now c.loop-i.i (dependency c.entry-dep.result) c.loop-i.invariant c.entry-dep.ensures (sym c.eq.ensures ∙ c.if-eq.false)
