-- One pair more, and none after the last name.
use Rattle.std.proofs.Common.{◌-◌, arith}
use Rattle.adb_fields.specs.NamedTexts.{joined_name_with_position}
use Rattle.adb_fields.proofs.FirstPair.{step_pair, no_next_pair}
use Rattle.adb_fields.proofs.pairs.first_of_neighbours.Goals as goal

pub loop-i-preserved : goal.loop-i-preserved
loop-i-preserved c = (omega arith, step_pair joined_name_with_position c.args.entries.now c.loop-i.i _ c.loop-i.first c.lesser_pair-first.result _ c.pair_if_same_name_and_first_precedes.result c.loop-i.invariant.0 c.loop-i-test.true c.pair_if_same_name_and_first_precedes.ensures c.lesser_pair-first.ensures c.loop-i.invariant.1)

pub returns : goal.returns
returns c = no_next_pair joined_name_with_position c.args.entries.now (c.loop-i.i - 1) c.loop-i.first _ (omega arith) c.loop-i.invariant.1
