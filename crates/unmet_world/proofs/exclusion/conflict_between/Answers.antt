use Rattle.std.proofs.Common.{◌∙◌, ap, sym, arith}
use Rattle.std.specs.List.{find}
use Rattle.std.proofs.lemmas.List.{take_all}
use Rattle.dep_core.specs.Meets.{dependency}
use Rattle.search_tables.proofs.candidate_core.LoopTests.{found_first, not_found_next}
use Rattle.unmet_world.specs.Exclusion.{is_conflict_met_by}
use Rattle.unmet_world.proofs.Excluding.{conflict_at}
use Rattle.unmet_world.proofs.exclusion.conflict_between.Goals as goal

pub returns-then-is_conflict_met_by : goal.returns-then-is_conflict_met_by
returns-then-is_conflict_met_by c =
    let there = conflict_at c.args.pool.now c.args.a c.args.b c.in-Some.one c.in-Some-at.other c.depends-depends.result (sym c.at.ensures ∙ c.in-Some.is) (sym c.at-2.ensures ∙ c.in-Some-at.is) c.depends-depends.ensures in
    sym (there ∙ found_first (is_conflict_met_by c.in-Some-at.other) c.depends-depends.result c.loop-i.i (dependency c.get-dep.result) c.loop-i.invariant c.get-dep.ensures (sym c.is_conflict_met_by.ensures ∙ c.if-is_conflict_met_by.true))

pub loop-i-preserved : goal.loop-i-preserved
loop-i-preserved c =
    not_found_next (is_conflict_met_by c.in-Some-at.other) c.depends-depends.result c.loop-i.i (dependency c.get-dep.result) c.loop-i.invariant c.get-dep.ensures (sym c.is_conflict_met_by.ensures ∙ c.if-is_conflict_met_by.false)

pub returns : goal.returns
returns c =
    let there = conflict_at c.args.pool.now c.args.a c.args.b c.in-Some.one c.in-Some-at.other c.depends-depends.result (sym c.at.ensures ∙ c.in-Some.is) (sym c.at-2.ensures ∙ c.in-Some-at.is) c.depends-depends.ensures in
    sym (there ∙ (ap (find (is_conflict_met_by c.in-Some-at.other)) (sym (take_all c.loop-i.i c.depends-depends.result (omega arith))) ∙ c.loop-i.invariant))
