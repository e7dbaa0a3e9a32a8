use Rattle.std.proofs.Common.{◌∙◌, Some, ap, sym, arith}
use Rattle.std.proofs.lemmas.Option.{slice_get-get_or}
use Rattle.engine_core.specs.Writing.{name_of_write}
use Rattle.engine_core.proofs.Lists.{all_copied, copied}
use Rattle.engine_core.proofs.writes.names_of.Goals as goal

pub loop-write-preserved : goal.loop-write-preserved
loop-write-preserved c =
    copied name_of_write c.args.writes.now c.loop-write.write-index c.write-item.result c.loop-write.names c.push.new.self c.in_ok-copy.field-0
    (slice_get-get_or c.args.writes.now c.loop-write.write-index c.write-item.result (omega (arith, c.loop-write-test.true)) ∙ ap Some (sym c.write-item.is)) c.in_ok-push.ensures.ok c.in_ok-copy.ensures c.loop-write.invariant

pub returns : goal.returns
returns c = all_copied name_of_write c.args.writes.now c.loop-write.write-index c.loop-write.names (omega (arith, c.loop-write-test.false)) c.loop-write.invariant
