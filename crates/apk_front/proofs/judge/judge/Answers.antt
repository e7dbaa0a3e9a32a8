use Rattle.std.proofs.Common.{Ok, refl}
use Rattle.apk_front.proofs.Carried.{arguments_by_command, by_command, failed_run, found_by_command, proper_by_command, run_by_command, usage_reported, usage_run}
use Rattle.apk_front.proofs.Judged.{usage_found, usage_verdict}
use Rattle.apk_front.proofs.Named.{command_named, memory_named_so}
use Rattle.apk_front.proofs.Promised.{asked_by_command, asked_idle}
use Rattle.apk_front.proofs.VerdictCounts.{counted_memory, counted_verdict, proper_idle}
use Rattle.apk_front.proofs.judge.judge.Goals as goal

pub returns-in-Ok-clause-run : goal.returns-in-Ok-clause-run
returns-in-Ok-clause-run g c = record {
  found = by_command c.args.words.now _ _ c.run_command.result c.in-Ok.ensures.ok c.run_command.ensures.run.found;
  by_reads = found_by_command c.args.words.now _ c.run_command.result c.in-Ok.ensures.ok c.run_command.ensures.run.by_reads;
  tree = run_by_command c.args.words.now _ _ _ _ c.in-Ok.ensures.ok c.run_command.ensures.run.tree;
  promised = asked_by_command g.T.Tree.accepts c.args.words.now _ _ _ c.in-Ok.ensures.ok c.run_command.ensures.run.promised;
  counts = c.run_command.ensures.run.counts;
  proper = proper_by_command c.args.words.now _ _ _ c.in-Ok.ensures.ok c.run_command.ensures.run.proper;
}

pub returns-in-Ok-clause-by_arguments : goal.returns-in-Ok-clause-by_arguments
returns-in-Ok-clause-by_arguments g c = arguments_by_command c.args.words.now _ _ _ c.run_command.result c.in-Ok.ensures.ok c.run_command.ensures.by_arguments

pub returns-in-Ok-clause-named : goal.returns-in-Ok-clause-named
returns-in-Ok-clause-named g c = λ memory. command_named c.args.words.now _ c.in-Ok.ensures.ok

pub returns-in-Err-Usage-clause-run : goal.returns-in-Err-Usage-clause-run
returns-in-Err-Usage-clause-run g c = record {
  found = usage_reported c.args.words.now _ c.refused.result
      (λ v. usage_verdict c.args.words.now _ _ _ c.refused.result c.in-Err-Usage.place-is c.in-Err-Usage.field-0-is c.in-Err-Usage.ensures.usage c.refused.ensures _);
  by_reads = usage_found c.args.words.now _ _ _ c.refused.result c.in-Err-Usage.place-is c.in-Err-Usage.field-0-is c.in-Err-Usage.ensures.usage c.refused.ensures;
  tree = usage_run c.args.words.now _ _ (Ok c.refused.result) (g.T.Tree.history c.args.tree.now) c.in-Err-Usage.field-0-is c.in-Err-Usage.ensures.usage;
  promised = λ changes. asked_idle g.T.Tree.accepts _;
  counts = counted_verdict c.refused.result _;
  proper = proper_idle _ _ _;
}

pub returns-in-Err-Usage-clause-by_arguments : goal.returns-in-Err-Usage-clause-by_arguments
returns-in-Err-Usage-clause-by_arguments g c = λ rests. record {
  by_words = usage_verdict c.args.words.now _ _ _ c.refused.result c.in-Err-Usage.place-is c.in-Err-Usage.field-0-is c.in-Err-Usage.ensures.usage c.refused.ensures;
  untouched = refl;
}

pub returns-in-Err-Memory-clause-run : goal.returns-in-Err-Memory-clause-run
returns-in-Err-Memory-clause-run g c = record {
  found = tt;
  by_reads = tt;
  tree = failed_run c.args.words.now _ (g.T.Tree.history c.args.tree.now);
  promised = λ changes. asked_idle g.T.Tree.accepts _;
  counts = counted_memory _;
  proper = proper_idle _ _ _;
}

pub returns-in-Err-Memory-clause-by_arguments : goal.returns-in-Err-Memory-clause-by_arguments
returns-in-Err-Memory-clause-by_arguments g c = λ rests. record { by_words = refl; untouched = refl }

pub returns-in-Err-Memory-clause-named : goal.returns-in-Err-Memory-clause-named
returns-in-Err-Memory-clause-named g c = λ memory. memory_named_so c.args.words.now _ c.in-Err-Memory.field-0-is c.in-Err-Memory.ensures.memory
