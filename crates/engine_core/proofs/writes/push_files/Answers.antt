use Rattle.std.proofs.Common.{◌∙◌, ap, sym, refl, length, arith}
use Rattle.std.specs.Prelude.{slice_get}
use Rattle.change_report.specs.db_core.Seen.{members_of}
use Rattle.change_report.specs.own_core.Planned.{IsOfAddedFile}
use Rattle.change_report.specs.own_core.WritesSeen.{write_seen, writes_in}
use Rattle.change_report.specs.own_core.declared.writes.Writes.{Writes}
use Rattle.engine_core.specs.Writing.{package_at}
use Rattle.engine_core.proofs.Elements.{all_at}
use Rattle.engine_core.proofs.Written.{all_wrote, none_wrote, one_wrote}
use Rattle.engine_core.proofs.writes.push_files.Goals as goal

pub source_of-source-requires-clause-file : goal.source_of-source-requires-clause-file
source_of-source-requires-clause-file c =
    all_at (IsOfAddedFile (members_of c.args.members.now)) (writes_in c.args.plan.now.writes) c.loop-i.i (write_seen c.get-write.result.now) c.requires.sources
    (ap (λ (p : Writes). slice_get (writes_in p) c.loop-i.i) (sym c.writes-planned.ensures) ∙ c.get-write.ensures)

pub loop-i-init : goal.loop-i-init
loop-i-init c = none_wrote (members_of c.args.members.now) (package_at c.args.arrivals.now) c.args.plan.now c.args.writes.now.items

pub loop-i-preserved : goal.loop-i-preserved
loop-i-preserved c =
    one_wrote (members_of c.args.members.now) (package_at c.args.arrivals.now) c.args.plan.now c.args.writes.now.items c.loop-i.i c.loop-i.writes.items c.push.new.self.items _ (write_seen c.get-write.result.now)
    c.in_ok-push.ensures.items (ap (λ (p : Writes). slice_get (writes_in p) c.loop-i.i) (sym c.writes-planned.ensures) ∙ c.get-write.ensures) refl c.source_of-source.ensures c.loop-i.invariant

pub returns : goal.returns
returns c =
    all_wrote (members_of c.args.members.now) (package_at c.args.arrivals.now) c.args.plan.now c.args.writes.now.items c.loop-i.i c.loop-i.writes.items
    (omega (arith, c.loop-i-test.false, c.len-i-end.ensures, ap (λ (p : Writes). length (writes_in p)) c.writes-planned.ensures)) c.loop-i.invariant
