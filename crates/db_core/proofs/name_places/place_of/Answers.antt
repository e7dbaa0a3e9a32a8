use Rattle.std.proofs.Common.{arith}
use Rattle.db_core.proofs.NamePlaces.{none_past, none_there, not_false, not_true, one_there}
use Rattle.db_core.proofs.name_places.place_of.Goals as goal

pub returns-then-at-names : goal.returns-then-at-names
returns-then-at-names c = none_past c.args.names.now c.args.name.now c.count_before-at.result c.requires c.count_before-at.ensures.point c.if-at-names.true

pub returns-then-ne : goal.returns-then-ne
returns-then-ne c =
    none_there c.args.names.now c.args.name.now c.count_before-at.result c.requires c.count_before-at.ensures.point _
    (omega (arith, c.count_before-at.ensures.within, c.if-at-names.false)) (not_true _ _ c.ne.ensures c.if-ne.true)

pub returns : goal.returns
returns c =
    one_there c.args.names.now c.args.name.now c.count_before-at.result c.requires c.count_before-at.ensures.point _
    (omega (arith, c.count_before-at.ensures.within, c.if-at-names.false)) (not_false _ _ c.ne.ensures c.if-ne.false)
