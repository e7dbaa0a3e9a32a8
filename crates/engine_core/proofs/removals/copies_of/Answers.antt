use Rattle.std.proofs.Common.{◌∙◌, List, ℕ, Bor, Some, ap, sym, arith}
use Rattle.std.proofs.lemmas.Option.{slice_get-get_or}
use Rattle.engine_core.proofs.Lists.{all_copied, copied}
use Rattle.engine_core.proofs.removals.copies_of.Goals as goal

pub loop-name-preserved : goal.loop-name-preserved
loop-name-preserved c =
    copied (λ (n : Bor (List ℕ)). n.now) c.args.names.now c.loop-name.name-index c.name-item.result c.loop-name.copies c.push.new.self c.in_ok-copy.field-0
    (slice_get-get_or c.args.names.now c.loop-name.name-index c.name-item.result (omega (arith, c.loop-name-test.true)) ∙ ap Some (sym c.name-item.is)) c.in_ok-push.ensures.ok c.in_ok-copy.ensures c.loop-name.invariant

pub returns : goal.returns
returns c = all_copied (λ (n : Bor (List ℕ)). n.now) c.args.names.now c.loop-name.name-index c.loop-name.copies (omega (arith, c.loop-name-test.false)) c.loop-name.invariant
