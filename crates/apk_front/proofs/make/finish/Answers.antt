use Rattle.std.proofs.Common.{refl, inr}
use Rattle.apk_front.proofs.Containers.{refused_made, refused_run, written_made}
use Rattle.apk_front.proofs.Runs.{idle_refused}
use Rattle.make_core.specs.make_info.Output.{output_name}
use Rattle.apk_front.proofs.make.finish.Goals as goal

pub returns-in-Err-clause-reported : goal.returns-in-Err-clause-reported
returns-in-Err-clause-reported g c = refused_made (output_name c.args.command.now) c.args.container _ c.refuse.result c.in-Err.is c.refuse.ensures.reported c.args.report

pub returns-in-Err-clause-run : goal.returns-in-Err-clause-run
returns-in-Err-clause-run g c = record {
  tree = refused_run (output_name c.args.command.now) c.args.report c.args.container _ c.refuse.result _ _ c.in-Err.is refl;
  refused = idle_refused c.refuse.result _;
  undone = λ none. refl;
}

pub returns-in-Ok-clause-run : goal.returns-in-Ok-clause-run
returns-in-Ok-clause-run g c = record {
  tree = written_made (output_name c.args.command.now) c.args.report c.args.container c.in-Ok.file _ c.write.result _ _ c.in-Ok.is c.deref.ensures.value c.write.ensures.run.tree;
  refused = c.write.ensures.run.refused;
  undone = c.write.ensures.run.undone;
}

pub returns-in-Ok-clause-goes_on : goal.returns-in-Ok-clause-goes_on
returns-in-Ok-clause-goes_on g c = c.write.ensures.counts.goes_on

pub returns-in-Ok-clause-disk : goal.returns-in-Ok-clause-disk
returns-in-Ok-clause-disk g c = λ is. inr (c.write.ensures.counts.disk is)

pub returns-in-Ok-clause-kept : goal.returns-in-Ok-clause-kept
returns-in-Ok-clause-kept g c = c.write.ensures.counts.kept

pub returns-in-Ok-clause-memory : goal.returns-in-Ok-clause-memory
returns-in-Ok-clause-memory g c = c.write.ensures.counts.memory
