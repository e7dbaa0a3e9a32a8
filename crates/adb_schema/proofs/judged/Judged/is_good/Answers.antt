use Rattle.std.proofs.Common.{ℕ, subst}
use Rattle.std.specs.Bool.{OnTrue}
use Rattle.std.proofs.lemmas.Map.Lookups.{exact_pairs, exact_unsigned}
use Rattle.adb_view.specs.Adb.{payload_of}
use Rattle.adb_schema.specs.TextRules.{KeepsTextRule}
use Rattle.adb_schema.proofs.GoodTexts.{exact_rules, has-contained}
use Rattle.adb_schema.proofs.judged.Judged.is_good.Goals as goal

pub returns : goal.returns
returns c =
    subst (λ (w : ℕ). OnTrue c.contains.result (KeepsTextRule (payload_of c.args.self.now.adb) (c.args.rule, w))) c.word.ensures
    (has-contained (exact_pairs _ _ exact_rules exact_unsigned) (KeepsTextRule (payload_of c.args.self.now.adb)) c.args.self.now.good.keys (c.args.rule, c.word.result) c.contains.result c.contains.ensures c.args.self.now.kept)
