use Rattle.std.proofs.Common.{◌≡◌, true, false, map, refl, ap, ◌∙◌, arith, rules, tests}
use Rattle.adb_view.specs.Plain.{array_or_null}
use Rattle.adb_values.specs.Drafts.{draft_with_all, draft_with_open_list}
use Rattle.adb_values.proofs.Lists.{closed, list_given}
use Rattle.make_info.specs.FieldTexts.{is_same_field}
use Rattle.make_info.specs.Information.{plain_values_of_field}
use Rattle.make_info.specs.Views.{item_view}
use Rattle.make_info.proofs.Written.{said_by, said_more, said_same}
use Rattle.make_info.proofs.information.Items.write_list.Goals as goal
use Rattle.make_info.proofs.information.Items.write_list.Goals.{then-eq+in_ok-write, else-eq}

pub loop-entry-preserved : goal.loop-entry-preserved
loop-entry-preserved c =
    let e = c.entry-item.result in
    let items = c.deref-entry-items.result.now in
    let i = c.loop-entry.entry-index in
    elim c.if-eq.branch [
      | then-eq+in_ok-write w ↦
          let same : is_same_field e.field c.args.field ≡ true = search (rules, tests) in
          said_more c.args.field items i e c.loop-entry.draft _ _ c.loop-entry-test.true c.entry-item.is c.loop-entry.invariant same (w.draft-is ∙ w.in_ok-write.ensures)
      | else-eq w ↦
          let same : is_same_field e.field c.args.field ≡ false = search (rules, tests) in
          said_same c.args.field items i e c.loop-entry.draft _ _ c.loop-entry-test.true c.entry-item.is c.loop-entry.invariant same w.draft-is
    ]

pub returns : goal.returns
returns c =
    let items = c.deref-entry-items.result.now in
    let same : map item_view items ≡ c.args.self.now = ap (map item_view) c.deref-entry-items.ensures.value ∙ c.self.view_is in
    closed array_or_null (plain_values_of_field c.args.field c.args.self.now) c.args.draft.now _ _ c.close_array.result c.close_array.ensures.ok
    (list_given (said_by c.args.field) items refl c.loop-entry.entry-index _ _ _ (omega arith) c.loop-entry.invariant c.in_ok-open_list.ensures.ok
    ∙ ap (λ is. draft_with_all (plain_values_of_field c.args.field is) (draft_with_open_list c.args.draft.now)) same)
