use Rattle.std.proofs.Common.{arith, map}
use Rattle.path_claim_lists.specs.adb_fields.JoinedPath.{joined_path}
use Rattle.own_core.proofs.Written.{name_more, names_whole}
use Rattle.own_core.proofs.clashes.add_names.Goals as goal

pub loop-i-preserved : goal.loop-i-preserved
loop-i-preserved c =
    name_more c.args.names.now c.loop-i.i _ (map joined_path c.args.paths.now.items) c.loop-i.paths.items c.push.new.self.items _ c.get.ensures c.as_bytes.ensures.value c.in_ok-push.ensures.items c.loop-i.invariant

pub returns : goal.returns
returns c = names_whole c.args.names.now c.loop-i.i (map joined_path c.args.paths.now.items) (map joined_path c.loop-i.paths.items) (omega (arith, c.loop-i-test.false, c.len-i-end.ensures)) c.loop-i.invariant
