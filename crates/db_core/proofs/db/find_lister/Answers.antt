use Rattle.std.proofs.Common.{arith}
use Rattle.pkg_core.specs.adb_fields.ListValue.{list_value}
use Rattle.adb_view.specs.Values.{entries_in}
use Rattle.db_core.specs.Packages.{lists_path}
use Rattle.db_core.proofs.Places.{place_found, place_next, place_none}
use Rattle.db_core.proofs.db.find_lister.Goals as goal

pub loop-i-preserved : goal.loop-i-preserved
loop-i-preserved c =
    place_next (lists_path c.args.path.now) (entries_in (list_value c.args.packages.now)) c.loop-i.i c.is_lister.result
    (omega (arith, c.len-i-end.ensures.value, c.loop-i-test.true)) c.is_lister.ensures c.if-is_lister.false c.loop-i.invariant

pub returns-then-is_lister-clause-found : goal.returns-then-is_lister-clause-found
returns-then-is_lister-clause-found c =
    place_found (lists_path c.args.path.now) (entries_in (list_value c.args.packages.now)) c.loop-i.i c.is_lister.result
    (omega (arith, c.len-i-end.ensures.value, c.loop-i-test.true)) c.is_lister.ensures c.if-is_lister.true c.loop-i.invariant

pub returns-clause-found : goal.returns-clause-found
returns-clause-found c =
    place_none (lists_path c.args.path.now) (entries_in (list_value c.args.packages.now)) c.loop-i.i
    (omega (arith, c.len-i-end.ensures.value, c.loop-i-test.false, c.loop-i.auto.i-end)) c.loop-i.invariant
