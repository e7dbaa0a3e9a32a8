use Rattle.adb_view.specs.ShapedPayload.{shaped_value, table_of}
use Rattle.adb_schema.proofs.Sound.{is_kept}
use Rattle.adb_schema.proofs.checked.Checked.values_keep_their_rules.Goals as goal

pub returns : goal.returns
returns c =
    let checked = c.args.self.now in
    is_kept c.no_text_is_bad_where_each_keeps_its_rule.ensures (table_of checked.shaped) (shaped_value checked.shaped) checked.texts
