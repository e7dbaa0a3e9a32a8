use Rattle.adb_view.specs.declared.tables.Which.TheVariants.{Index}
use Rattle.adb_schema.specs.Views.{index_value}
use Rattle.adb_schema.proofs.Sound.{is_kept}
use Rattle.adb_schema.proofs.checked.IndexView.values_keep_their_rules.Goals as goal

pub returns : goal.returns
returns c =
    let index = c.args.self.now in
    is_kept c.no_text_is_bad_where_each_keeps_its_rule.ensures Index (index_value index) index.texts
