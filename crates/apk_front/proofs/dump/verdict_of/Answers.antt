use Rattle.std.proofs.Common.{sym, ap, ◌∙◌}
use Rattle.base_core.specs.Read.{bytes_in}
use Rattle.outcome.specs.Dump.{dump_of}
use Rattle.apk_front.proofs.Dumping.{dump_bad, dump_good, dump_missing}
use Rattle.apk_front.proofs.dump.verdict_of.Goals as goal

pub returns-in_default : goal.returns-in_default
returns-in_default c = dump_missing c.args.place (bytes_in c.args.found.now) c.refused.result (ap bytes_in c.in_default.is) c.refused.ensures

pub returns-in-Ok : goal.returns-in-Ok
returns-in-Ok c =
    dump_good c.args.place (bytes_in c.args.found.now) c.in-Some.bytes.items _ c.reported.result (ap bytes_in c.in-Some.is) (sym (ap dump_of c.deref.ensures.value) ∙ c.in-Ok.ensures.ok) c.reported.ensures

pub returns-in-Err-Bad : goal.returns-in-Err-Bad
returns-in-Err-Bad c =
    dump_bad c.args.place (bytes_in c.args.found.now) c.in-Some.bytes.items c.deref.result.now _ _ _ c.refused-in-Err-Bad.result (ap bytes_in c.in-Some.is) c.deref.ensures.value c.in-Err-Bad.cause-is c.in-Err-Bad.field-0-is c.in-Err-Bad.ensures.bad c.refused-in-Err-Bad.ensures
