use Rattle.std.proofs.Common.{◌≡◌, true, false, ◌∙◌, rules, tests}
use Rattle.v2_core.specs.Views.{line_value_view}
use Rattle.v2_core.specs.Records.{InfoLine, info_line_from_parts, is_line_of_field}
use Rattle.v2_core.proofs.ListValues.{line_of_another, line_of_field}
use Rattle.v2_core.proofs.writing.write_list.Goals as goal
use Rattle.v2_core.proofs.writing.write_list.Goals.{then-eq+in_ok-write_values, else-eq}

pub loop-line-preserved : goal.loop-line-preserved
loop-line-preserved c =
    let line : InfoLine = info_line_from_parts c.line.inside.field (line_value_view c.line.inside.value) in
    let is = c.line.view_is ∙ c.line-item.is in
    elim c.if-eq.branch [
      | then-eq+in_ok-write_values w ↦
          let same : is_line_of_field c.args.field line ≡ true = search (rules, tests) in
          line_of_field c.args.field c.args.info.now c.loop-line.line-index line _ c.loop-line.draft _ _ c.loop-line-test.true is same c.loop-line.invariant (w.draft-is ∙ w.in_ok-write_values.ensures)
      | else-eq w ↦
          let other : is_line_of_field c.args.field line ≡ false = search (rules, tests) in
          line_of_another c.args.field c.args.info.now c.loop-line.line-index line _ c.loop-line.draft _ _ c.loop-line-test.true is other c.loop-line.invariant w.draft-is
    ]
