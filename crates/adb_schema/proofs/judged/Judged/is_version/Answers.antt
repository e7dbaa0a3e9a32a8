use Rattle.std.proofs.Common.{◌≡◌, ℕ, List, sym, ap, ◌∙◌, subst}
use Rattle.std.specs.Prelude.{IfOk, slice_range}
use Rattle.version_core.specs.Order.{is_version}
use Rattle.adb_view.specs.Adb.{payload_of}
use Rattle.adb_schema.proofs.GoodTexts.{text_at-blob}
use Rattle.adb_schema.proofs.judged.Judged.is_version.Goals as goal

pub returns-in-Ok-clause-value : goal.returns-in-Ok-clause-value
returns-in-Ok-clause-value c =
    let payload = payload_of c.args.self.now.adb in
    let text : slice_range c.args.self.now.versions c.in-Ok.from c.in-Ok.end ≡ c.args.text.now =
    ap (λ (bytes : List ℕ). slice_range bytes c.in-Ok.from c.in-Ok.end) c.args.self.now.same
    ∙ sym (text_at-blob payload c.args.word (slice_range payload c.in-Ok.from c.in-Ok.end) c.in-Ok.ensures.found) ∙ sym c.requires in
    subst (λ (bytes : List ℕ). IfOk c.is_version.result (λ is. is ≡ is_version bytes)) text c.is_version.ensures.value
