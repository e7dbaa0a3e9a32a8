use Rattle.hint_core.proofs.Fields.{field_absent, field_found, no_field}
use Rattle.hint_core.proofs.places.field_hint_in_table.Goals as goal

pub returns-then-number-eq0 : goal.returns-then-number-eq0
returns-then-number-eq0 c = no_field c.args.place c.from-number.result c.args.table c.from-number.ensures c.if-number-eq0.true

pub returns-in-Some : goal.returns-in-Some
returns-in-Some c =
    let look = c.in-Some.ensures.lookup.3 in
    field_found c.args.place c.from-number.result c.args.table c.fields_of.result.now c.in-Some.field.now c.from-number.ensures c.if-number-eq0.false c.fields_of.ensures look.0 look.1

pub returns-in-None : goal.returns-in-None
returns-in-None c = field_absent c.args.place c.from-number.result c.args.table c.fields_of.result.now c.from-number.ensures c.if-number-eq0.false c.fields_of.ensures c.in-None.ensures.lookup.3
