use Rattle.base_core.specs.Read.{bytes_in}
use Rattle.base_core.proofs.ReadAfter.{reading_as}
use Rattle.apk_front.proofs.Operands.{test_found}
use Rattle.apk_front.proofs.verify.test_whole.Goals as goal

pub returns : goal.returns
returns g c = record {
  found = test_found _ c.args.place c.args.file.now _ _ c.in_ok-refusal.ensures c.in_ok-found.ensures.answer;
  by_reads = (bytes_in c.in_ok-found.found, c.in_ok-refusal.ensures);
  tree = reading_as _ _ _ _ _ _ _ c.in_ok-found.ensures.tree;
}
