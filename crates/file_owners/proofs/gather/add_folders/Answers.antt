use Rattle.std.proofs.Common.{arith, map}
use Rattle.path_claims.specs.adb_fields.ListValue.{list_value}
use Rattle.adb_view.specs.Values.{entries_in}
use Rattle.path_claims.specs.Seen.{claim_seen}
use Rattle.file_owners.proofs.Gathering.{folder_added, folders_added}
use Rattle.file_owners.proofs.gather.add_folders.Goals as goal

pub loop-i-preserved : goal.loop-i-preserved
loop-i-preserved c m =
    folder_added (map claim_seen c.args.claims.now.items) (map claim_seen c.loop-i.claims.items) (map claim_seen c.add_folder.new.claims.items) m c.args.member
    (entries_in (list_value c.args.folders.now)) c.loop-i.i (omega (arith, c.len-i-end.ensures.value, c.loop-i-test.true)) (c.in_ok-add_folder.ensures m) (c.loop-i.invariant m)

pub returns : goal.returns
returns c m =
    folders_added (map claim_seen c.args.claims.now.items) (map claim_seen c.loop-i.claims.items) m c.args.member
    (entries_in (list_value c.args.folders.now)) c.loop-i.i (omega (arith, c.len-i-end.ensures.value, c.loop-i-test.false, c.loop-i.auto.i-end)) (c.loop-i.invariant m)
