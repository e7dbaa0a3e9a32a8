use Rattle.std.proofs.Common.{arith, ap, map, ◌∙◌, ◌≡◌, ◌+◌, ◌-◌}
use Rattle.path_claims.specs.adb_fields.ListValue.{list_value}
use Rattle.path_claims.specs.adb_fields.Repeated.{name_of}
use Rattle.adb_view.specs.Values.{entries_in, entry_at_index}
use Rattle.path_claims.specs.Seen.{claim_seen}
use Rattle.file_owners.proofs.Gathering.{file_added, files_added}
use Rattle.file_owners.proofs.gather.add_files.Goals as goal

pub loop-i-preserved : goal.loop-i-preserved
loop-i-preserved c m =
    let n : c.loop-i.i + 1 - 1 ≡ c.loop-i.i = omega arith in
    file_added (map claim_seen c.args.claims.now.items) (map claim_seen c.loop-i.claims.items) (map claim_seen c.add_file.new.claims.items) m c.args.place.now.member c.args.place.now.folder c.args.place.now.name.now
    (entries_in (list_value c.args.files.now)) c.loop-i.i c.name.result.now (omega (arith, c.len-i-end.ensures.value, c.loop-i-test.true))
    (c.name.ensures ∙ ap name_of (c.get.ensures ∙ ap (entry_at_index (list_value c.args.files.now)) n)) c.in_ok-add_file.ensures (c.loop-i.invariant m)

pub returns : goal.returns
returns c m =
    files_added (map claim_seen c.args.claims.now.items) (map claim_seen c.loop-i.claims.items) m c.args.place.now.member c.args.place.now.folder c.args.place.now.name.now
    (entries_in (list_value c.args.files.now)) c.loop-i.i (omega (arith, c.len-i-end.ensures.value, c.loop-i-test.false, c.loop-i.auto.i-end)) (c.loop-i.invariant m)
