use Rattle.base_core.proofs.ReadAfter.{reading_as}
use Rattle.apk_front.proofs.Operands.{verify_found, verify_read}
use Rattle.apk_front.proofs.verify.verify.Goals as goal

pub returns : goal.returns
returns g c = record {
  found = verify_found _ c.args.operands.now c.in_ok-verdict.verdict _ c.in_ok-refusal.ensures.found c.in_ok-verdict.ensures;
  by_reads = verify_read c.args.operands.now c.in_ok-verdict.verdict _ c.in_ok-refusal.ensures.by_reads c.in_ok-verdict.ensures;
  tree = reading_as _ _ _ _ _ _ _ c.in_ok-refusal.ensures.tree;
}
