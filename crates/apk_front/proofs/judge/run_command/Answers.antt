use Rattle.apk_front.proofs.Demos.{demo_by_reads, demo_by_words, demo_found, demo_run, never_disk, other_by_reads, other_by_words, other_found, other_proper, other_run}
use Rattle.std.proofs.Common.{refl, sym, ◌∙◌}
use Rattle.apk_front.proofs.Promised.{changes_not_demo}
use Rattle.apk_front.proofs.VerdictCounts.{counted_idle, proper_idle}
use Rattle.apk_front.proofs.judge.run_command.Goals as goal

pub returns-in-Demo-clause-run : goal.returns-in-Demo-clause-run
returns-in-Demo-clause-run g c = record {
  found = demo_found c.args.command.now c.applet.result c.operands.result.now c.demo.result _ c.applet.ensures.value c.in-Demo.is c.operands.ensures.value c.demo.ensures;
  by_reads = demo_by_reads c.args.command.now c.applet.result c.operands.result.now c.demo.result c.applet.ensures.value c.in-Demo.is c.operands.ensures.value c.demo.ensures;
  tree = demo_run c.args.command.now c.applet.result c.demo.result _ c.applet.ensures.value c.in-Demo.is;
  promised = λ changes. absurd (changes_not_demo c.args.command.now.applet (sym c.applet.ensures.value ∙ c.in-Demo.is) changes);
  counts = counted_idle c.demo.result _ (never_disk c.demo.result c.operands.result.now c.demo.ensures);
  proper = proper_idle _ _ _;
}

pub returns-in-Demo-clause-by_arguments : goal.returns-in-Demo-clause-by_arguments
returns-in-Demo-clause-by_arguments g c = λ rests. record {
  by_words = demo_by_words c.args.command.now c.applet.result c.operands.result.now c.demo.result c.applet.ensures.value c.in-Demo.is c.operands.ensures.value c.demo.ensures;
  untouched = refl;
}

pub returns-in_default-clause-run : goal.returns-in_default-clause-run
returns-in_default-clause-run g c = record {
  found = other_found c.args.command.now c.applet.result c.run.result _ c.applet.ensures.value c.in_default.not-Demo c.run.ensures.run.found;
  by_reads = other_by_reads c.args.command.now c.applet.result c.run.result c.applet.ensures.value c.in_default.not-Demo c.run.ensures.run.by_reads;
  tree = other_run c.args.command.now c.applet.result c.run.result _ _ c.applet.ensures.value c.in_default.not-Demo c.run.ensures.run.tree;
  promised = c.run.ensures.run.promised;
  counts = c.run.ensures.run.counts;
  proper = other_proper c.args.command.now c.applet.result _ _ c.applet.ensures.value c.in_default.not-Demo c.run.ensures.run.proper;
}

pub returns-in_default-clause-by_arguments : goal.returns-in_default-clause-by_arguments
returns-in_default-clause-by_arguments g c = λ rests. record {
  by_words = other_by_words c.args.command.now c.applet.result c.run.result c.applet.ensures.value c.in_default.not-Demo (λ only. (c.run.ensures.by_arguments only).by_words) rests;
  untouched = (c.run.ensures.by_arguments rests).untouched;
}
