use Rattle.std.proofs.Common.{arith, refl}
use Rattle.pkg_core.specs.adb_fields.ListValue.{list_value}
use Rattle.adb_view.specs.Values.{entries_in}
use Rattle.db_core.proofs.NamePlaces.{name_added, names_added}
use Rattle.db_core.proofs.name_places.names_of.Goals as goal

pub loop-i-preserved : goal.loop-i-preserved
loop-i-preserved c =
    name_added c.loop-i.names.items _ _ (entries_in (list_value c.args.packages.now)) c.loop-i.i (omega (arith, c.len-i-end.ensures.value, c.loop-i-test.true))
    c.in_ok-push.ensures.items c.name_at-name.ensures refl c.loop-i.invariant

pub returns : goal.returns
returns c =
    names_added c.loop-i.names.items (entries_in (list_value c.args.packages.now)) c.loop-i.i (omega (arith, c.len-i-end.ensures.value, c.loop-i-test.false, c.loop-i.auto.i-end)) c.loop-i.invariant
