use Rattle.std.proofs.Common.{Err, ap}
use Rattle.outcome.specs.Effect.{effect_of, output_name_for_effect}
use Rattle.apk_front.proofs.AfterRecovery.{moments_compose}
use Rattle.apk_front.proofs.Behind.{after_found, after_proper, behind_run, is_recovery, refused_found, refused_read, refused_run}
use Rattle.apk_front.proofs.Promised.{asked_behind, asked_unrecovered}
use Rattle.apk_front.proofs.VerdictCounts.{after_reads, counted_after, counted_unrecovered, unrecovered_proper}
use Rattle.apk_front.proofs.recovered.recover_and_run.Goals as goal

pub returns-in-Ok : goal.returns-in-Ok
returns-in-Ok g c = record {
  found = after_found c.args.command.now _ _ c.run_recovered.result c.requires c.in-Ok.ensures.refusal.good c.in-Ok.ensures.files c.run_recovered.ensures.run.found;
  by_reads = after_reads c.args.command.now c.run_recovered.result c.run_recovered.ensures.run.by_reads;
  tree =
      behind_run
      moments_compose
      c.args.command.now (output_name_for_effect (effect_of c.args.command.now.applet) c.args.command.now) c.run_recovered.result _ _ _ c.requires
      (is_recovery _ _ c.in-Ok.ensures.moments c.in-Ok.ensures.reads c.in-Ok.ensures.bytes c.in-Ok.ensures.journal.waiting c.in-Ok.ensures.journal.last c.in-Ok.ensures.idle)
      c.in-Ok.ensures.refusal.good c.in-Ok.ensures.files c.in-Ok.ensures.settled c.run_recovered.ensures.run.tree c.run_recovered.ensures.run.undone;
  promised = λ changes. asked_behind g.T.Tree.accepts _ _ _ c.in-Ok.ensures.reads c.in-Ok.ensures.files (c.run_recovered.ensures.promised changes);
  counts = counted_after c.run_recovered.result _ _ _ c.in-Ok.ensures.counts.goes_on c.in-Ok.ensures.counts.kept c.run_recovered.ensures.run.counts;
  proper =
      after_proper c.args.command.now (output_name_for_effect (effect_of c.args.command.now.applet) c.args.command.now) _ _ _ _ _ c.requires
      c.in-Ok.ensures.refusal.good c.in-Ok.ensures.files c.in-Ok.ensures.proper c.run_recovered.ensures.run.proper;
}

pub returns-in-Err : goal.returns-in-Err
returns-in-Err g c = record {
  found = refused_found c.args.command.now _ _ _ c.refuse_to_recover.result c.requires (λ cause is. c.in-Err.ensures.refusal.bad cause (ap Err is)) c.refuse_to_recover.ensures.refused;
  by_reads = refused_read c.args.command.now _ c.refuse_to_recover.result c.requires (λ cause is. c.in-Err.ensures.refusal.found cause (ap Err is)) c.refuse_to_recover.ensures.refused;
  tree =
      refused_run
      moments_compose
      c.args.command.now _ (output_name_for_effect (effect_of c.args.command.now.applet) c.args.command.now) c.refuse_to_recover.result _ _ c.requires
      (is_recovery _ _ c.in-Err.ensures.moments c.in-Err.ensures.reads c.in-Err.ensures.bytes c.in-Err.ensures.journal.waiting c.in-Err.ensures.journal.last c.in-Err.ensures.idle)
      (λ cause is. c.in-Err.ensures.refusal.bad cause (ap Err is)) c.in-Err.ensures.refusal.bad_idle c.refuse_to_recover.ensures.refused;
  promised = λ changes. asked_unrecovered g.T.Tree.accepts _ _ c.in-Err.ensures.reads;
  counts =
      counted_unrecovered _ c.refuse_to_recover.result _ _ c.in-Err.ensures.counts.goes_on (λ is. c.in-Err.ensures.counts.disk (ap Err is)) (λ is. c.in-Err.ensures.counts.memory (ap Err is))
      (λ cause is. c.in-Err.ensures.counts.refused cause (ap Err is)) c.refuse_to_recover.ensures.refused c.refuse_to_recover.ensures.disk c.refuse_to_recover.ensures.memory;
  proper = unrecovered_proper (effect_of c.args.command.now.applet) (output_name_for_effect (effect_of c.args.command.now.applet) c.args.command.now) _ _ _ c.requires c.in-Err.ensures.proper;
}
