use Rattle.std.proofs.Common.{◌+◌, ℕ, List, Bor, map, drop, arith}
use Rattle.candidate_core.specs.adb_fields.Repeated.{package_name}
use Rattle.file_owners.specs.db_core.Seen.{packages_of}
use Rattle.tell_core.proofs.LineSteps.{mapped_left, pushed}
use Rattle.tell_core.proofs.info.names.names_of.Goals as goal

pub loop-i-preserved : goal.loop-i-preserved
loop-i-preserved c =
    pushed (λ (n : Bor (List ℕ)). n.now) c.loop-i.names.items _ _ _ (map package_name (drop (c.loop-i.i + 1) (packages_of c.args.db.now))) _
    c.in_ok-push.ensures.items
    (mapped_left package_name (packages_of c.args.db.now) c.loop-i.i c.name_at.result.now (omega (arith, c.len-i-end.ensures.value, c.loop-i-test.true)) c.name_at.ensures)
    c.loop-i.invariant
