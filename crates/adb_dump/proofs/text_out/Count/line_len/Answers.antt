use Rattle.std.proofs.Common.{ℕ, List, length, sym, ap, ◌∙◌}
use Rattle.adb_dump.specs.Dump.{bare_or_quoted_text}
use Rattle.adb_dump.proofs.text_out.Count.line_len.Goals as goal

pub returns-in-Some-clause-len : goal.returns-in-Some-clause-len
returns-in-Some-clause-len c payload text kept =
    kept c.args.word c.in-Some.len (sym c.kept_len.ensures ∙ c.in-Some.is) ∙ ap (λ (bytes : List ℕ). length (bare_or_quoted_text bytes)) (sym text)
