use Rattle.base_core.proofs.ReadAfter.{reading_as}
use Rattle.apk_front.proofs.Generating.{gen_found, gen_read}
use Rattle.apk_front.proofs.generate.adbgen.Goals as goal

pub returns : goal.returns
returns g c = record {
  found = gen_found _ c.args.operands.now c.get.result.now c.file.result.now c.in_ok-verdict.verdict _ c.requires.one c.get.ensures c.file.ensures c.in_ok-verdict.ensures c.in_ok-found.ensures.answer;
  by_reads = gen_read c.args.operands.now c.get.result.now c.in_ok-verdict.verdict _ c.requires.one c.get.ensures c.in_ok-verdict.ensures;
  tree = reading_as _ _ _ _ _ _ _ c.in_ok-found.ensures.tree;
}
