use Rattle.std.proofs.Common.{◌∙◌, ap, sym, arith}
use Rattle.std.specs.List.{find}
use Rattle.std.specs.Option.{option_map}
use Rattle.std.proofs.lemmas.List.{take_all}
use Rattle.dep_core.specs.Dependency.{Dependency}
use Rattle.dep_core.specs.Meets.{dependency}
use Rattle.search_tables.proofs.candidate_core.LoopTests.{found_first, not_found_next}
use Rattle.unmet_world.specs.Exclusion.{both_occupy}
use Rattle.unmet_world.proofs.Excluding.{own_name_at, provided_name_at}
use Rattle.unmet_world.proofs.exclusion.shared_name_at_places.Goals as goal

pub returns-then-occupies : goal.returns-then-occupies
returns-then-occupies c =
    sym (own_name_at c.args.pool.now c.args.a c.args.b c.in-Some.one c.in-Some-at.other _ _ (sym c.at.ensures ∙ c.in-Some.is) (sym c.at-2.ensures ∙ c.in-Some-at.is) c.name.ensures (sym c.occupies.ensures ∙ c.if-occupies.true) c.name-then-occupies.ensures)

pub returns-then-occupies-2 : goal.returns-then-occupies-2
returns-then-occupies-2 c =
    let there = provided_name_at c.args.pool.now c.args.a c.args.b c.in-Some.one c.in-Some-at.other _ c.provides-provides.result (sym c.at.ensures ∙ c.in-Some.is) (sym c.at-2.ensures ∙ c.in-Some-at.is) c.name.ensures (sym c.occupies.ensures ∙ c.if-occupies.false) c.provides-provides.ensures in
    sym (there ∙ ap (option_map (λ (p : Dependency). p.name)) (found_first (both_occupy c.in-Some-at.other) c.provides-provides.result c.loop-i.i (dependency c.get-entry.result) c.loop-i.invariant c.get-entry.ensures (sym c.occupies-in-loop-i.ensures ∙ c.if-occupies-2.true)))

pub loop-i-preserved : goal.loop-i-preserved
loop-i-preserved c =
    not_found_next (both_occupy c.in-Some-at.other) c.provides-provides.result c.loop-i.i (dependency c.get-entry.result) c.loop-i.invariant c.get-entry.ensures (sym c.occupies-in-loop-i.ensures ∙ c.if-occupies-2.false)

pub returns : goal.returns
returns c =
    let there = provided_name_at c.args.pool.now c.args.a c.args.b c.in-Some.one c.in-Some-at.other _ c.provides-provides.result (sym c.at.ensures ∙ c.in-Some.is) (sym c.at-2.ensures ∙ c.in-Some-at.is) c.name.ensures (sym c.occupies.ensures ∙ c.if-occupies.false) c.provides-provides.ensures in
    sym (there ∙ ap (option_map (λ (p : Dependency). p.name)) (ap (find (both_occupy c.in-Some-at.other)) (sym (take_all c.loop-i.i c.provides-provides.result (omega arith))) ∙ c.loop-i.invariant))
