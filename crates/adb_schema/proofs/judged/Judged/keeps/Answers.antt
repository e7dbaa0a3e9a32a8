use Rattle.std.proofs.Common.{sym, ap, ◌∙◌}
use Rattle.adb_view.specs.Adb.{payload_of}
use Rattle.adb_view.specs.declared.adb.Adb.{Adb}
use Rattle.adb_schema.specs.TextRules.{KeepsTextRule, keeps_text_rule, text_at}
use Rattle.adb_schema.proofs.GoodTexts.{all-inserted}
use Rattle.adb_schema.proofs.judged.Judged.keeps.Goals as goal

pub invariant_of-self : goal.invariant_of-self
invariant_of-self c =
    let before = c.long_text_keeps.new.self in
    record {
      kept =
          all-inserted _ (KeepsTextRule (payload_of before.adb)) before.good.keys c.insert.new.self.keys (c.args.rule, c.word.result) c.insert.result c.insert.ensures.keys c.insert.ensures.err before.kept
          (ap (λ w. keeps_text_rule c.args.rule (text_at (payload_of before.adb) w)) c.word.ensures
          ∙ ap (λ (adb : Adb). keeps_text_rule c.args.rule (text_at (payload_of adb) c.args.word)) c.long_text_keeps.ensures.payload
          ∙ ap (keeps_text_rule c.args.rule) (sym c.requires) ∙ sym c.in_ok-long_text_keeps.ensures.value ∙ c.if-not-branch.false);
      same = before.same;
    }
