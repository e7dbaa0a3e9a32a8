use Rattle.adb_schema.proofs.SoundLeaves.{rules_kept}
use Rattle.adb_schema.proofs.text_walk.no_text_is_bad_where_each_keeps_its_rule.Goals as goal

pub returns : goal.returns
returns c = rules_kept
