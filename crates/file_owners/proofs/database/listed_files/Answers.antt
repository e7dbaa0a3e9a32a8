use Rattle.std.proofs.Common.{arith, map}
use Rattle.std.proofs.lemmas.List.{length-map}
use Rattle.db_core.specs.Members.{member_of_kept}
use Rattle.db_core.specs.Seen.{packages_of}
use Rattle.path_claims.specs.Seen.{claim_seen}
use Rattle.file_owners.proofs.Gathering.{member_added, members_added}
use Rattle.file_owners.proofs.database.listed_files.Goals as goal

pub loop-i-preserved : goal.loop-i-preserved
loop-i-preserved c =
    member_added (map claim_seen c.loop-i.claims.items) (map claim_seen c.add_package.new.claims.items) (map member_of_kept (packages_of c.args.db.now)) c.loop-i.i
    (omega (arith, c.len-i-end.ensures.value, c.loop-i-test.true, length-map (packages_of c.args.db.now) member_of_kept)) c.in_ok-add_package.ensures c.loop-i.invariant

pub returns : goal.returns
returns c =
    members_added (map claim_seen c.loop-i.claims.items) (map member_of_kept (packages_of c.args.db.now)) c.loop-i.i
    (omega (arith, c.len-i-end.ensures.value, c.loop-i-test.false, c.loop-i.auto.i-end, length-map (packages_of c.args.db.now) member_of_kept)) c.loop-i.invariant
