use Rattle.std.proofs.Common.{◌∙◌, sym}
use Rattle.dep_core.specs.Meets.{dependency}
use Rattle.candidate_core.specs.Candidates.{is_name_occupied_by_provides_entry}
use Rattle.candidate_core.proofs.LoopTests.{any_at, none_next}
use Rattle.candidate_core.proofs.candidate.any_occupies.Goals as goal

pub returns-then-is_name_occupied_by_provides_entry : goal.returns-then-is_name_occupied_by_provides_entry
returns-then-is_name_occupied_by_provides_entry c =
    sym (any_at (is_name_occupied_by_provides_entry c.args.name.now) c.args.provides.now c.loop-i.i (dependency c.get-entry.result) c.get-entry.ensures (sym c.is_name_occupied_by_provides_entry.ensures ∙ c.if-is_name_occupied_by_provides_entry.true))

pub loop-i-preserved : goal.loop-i-preserved
loop-i-preserved c =
    none_next (is_name_occupied_by_provides_entry c.args.name.now) c.args.provides.now c.loop-i.i (dependency c.get-entry.result) c.loop-i.invariant c.get-entry.ensures (sym c.is_name_occupied_by_provides_entry.ensures ∙ c.if-is_name_occupied_by_provides_entry.false)
