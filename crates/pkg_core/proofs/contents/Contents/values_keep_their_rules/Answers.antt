-- The payload passes its tests.
use Rattle.adb_schema.specs.Soundness.{payload_fault}
use Rattle.adb_view.specs.declared.tables.Which.TheVariants.{Package}
use Rattle.pkg_core.specs.Values.{payload_of_contents}
use Rattle.adb_schema.proofs.SoundPayload.{none_of, payload_rules}
use Rattle.pkg_core.proofs.contents.Contents.values_keep_their_rules.Goals as goal

pub returns : goal.returns
returns c =
    let p = payload_of_contents c.args.self.now in
    payload_rules c.no_text_is_bad_where_each_keeps_its_rule.ensures Package p (none_of (payload_fault Package p) c.args.self.now.tested)
