use Rattle.std.proofs.Common.{true≢false, sym, ◌∙◌}
use Rattle.outcome.specs.Effect.{effect_of}
use Rattle.apk_front.proofs.Carried.{look_found, look_read, look_run, not_on_words, reads_by_access, recovers_else, writes_by_access}
use Rattle.apk_front.proofs.Promised.{changes_not_read}
use Rattle.apk_front.proofs.Runs.{proper_anyway}
use Rattle.apk_front.proofs.VerdictCounts.{counted_reads}
use Rattle.apk_front.proofs.judge.run.Goals as goal

pub recover_and_run-requires : goal.recover_and_run-requires
recover_and_run-requires g c =
    recovers_else (effect_of c.args.command.now.applet) (writes_by_access c.args.command.now c.applet.result c.applet_access.result c.applet.ensures.value c.applet_access.ensures c.in-Write.is)

pub returns-in-Write : goal.returns-in-Write
returns-in-Write g c =
    let writes = writes_by_access c.args.command.now c.applet.result c.applet_access.result c.applet.ensures.value c.applet_access.ensures c.in-Write.is in
    record {
      run = c.recover_and_run.ensures;
      by_arguments = λ rests. absurd (not_on_words (effect_of c.args.command.now.applet) writes rests);
      same = λ only. absurd (true≢false (sym only ∙ writes));
    }

pub look-requires : goal.look-requires
look-requires g c = reads_by_access c.args.command.now c.applet.result c.applet_access.result c.applet.ensures.value c.applet_access.ensures c.in-Read.is

pub returns-in-Read : goal.returns-in-Read
returns-in-Read g c =
    let reads = reads_by_access c.args.command.now c.applet.result c.applet_access.result c.applet.ensures.value c.applet_access.ensures c.in-Read.is in
    record {
      run = record {
        found = look_found c.args.command.now _ c.look.result reads c.look.ensures.run.found;
        by_reads = look_read c.args.command.now c.look.result reads c.look.ensures.run.by_reads;
        tree = look_run c.args.command.now _ _ c.look.result reads c.look.ensures.run.tree.same;
        promised = λ changes. absurd (changes_not_read (effect_of c.args.command.now.applet) reads changes);
        counts = counted_reads c.look.result _ _ _ _ c.look.ensures.run.tree;
        proper = proper_anyway _ _ _ c.look.ensures.run.tree.proper;
      };
      by_arguments = c.look.ensures.by_arguments;
      same = λ only. c.look.ensures.run.tree.same;
    }
