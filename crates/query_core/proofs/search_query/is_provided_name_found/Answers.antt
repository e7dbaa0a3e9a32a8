use Rattle.std.proofs.Common.{◌≤◌, ◌∙◌, ap, sym, arith, length}
use Rattle.std.specs.List.{list_any}
use Rattle.std.proofs.lemmas.List.{take_all}
use Rattle.pool_core.proofs.candidate_core.LoopTests.{any_at, none_next}
use Rattle.dep_core.specs.Meets.{dependency}
use Rattle.query_core.specs.EntryFound.{is_provides_entry_found}
use Rattle.query_core.proofs.ProvidedNames.{provided_found}
use Rattle.query_core.proofs.search_query.is_provided_name_found.Goals as goal

pub returns-then-is_provides_entry_found : goal.returns-then-is_provides_entry_found
returns-then-is_provides_entry_found c =
    sym (provided_found c.args.patterns.now c.args.provides.now
    ∙ any_at (is_provides_entry_found c.args.patterns.now) c.args.provides.now c.loop-i.i (dependency c.get.result) c.get.ensures (sym c.is_provides_entry_found.ensures ∙ c.if-is_provides_entry_found.true))

pub loop-i-preserved : goal.loop-i-preserved
loop-i-preserved c =
    none_next (is_provides_entry_found c.args.patterns.now) c.args.provides.now c.loop-i.i (dependency c.get.result) c.loop-i.invariant c.get.ensures (sym c.is_provides_entry_found.ensures ∙ c.if-is_provides_entry_found.false)

pub returns : goal.returns
returns c =
    let past : length c.args.provides.now ≤ c.loop-i.i = omega arith in
    sym (provided_found c.args.patterns.now c.args.provides.now
    ∙ (ap (list_any (is_provides_entry_found c.args.patterns.now)) (sym (take_all c.loop-i.i c.args.provides.now past)) ∙ c.loop-i.invariant))
