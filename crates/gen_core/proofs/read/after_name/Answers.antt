use Rattle.std.proofs.Common.{◌≡◌, ℕ, List, Some, None, sym, ap, ◌∙◌}
use Rattle.std.specs.Prelude.{codes}
use Rattle.adb_view.specs.Schema.{field_name_text}
use Rattle.adb_dump.specs.ReadBack.{strip_prefix}
use Rattle.gen_core.proofs.TextLines.{two_none, two_some}
use Rattle.gen_core.proofs.read.after_name.Goals as goal

pub returns-in-Some : goal.returns-in-Some
returns-in-Some c =
    let front : strip_prefix (field_name_text c.args.name) c.args.line.now ≡ Some c.in-Some.rest.now = ap (λ (p : List ℕ). strip_prefix p c.args.line.now) (sym (c.as_bytes.ensures.value ∙ c.text.ensures)) ∙ sym c.in-Some.ensures in
    c.without_prefix-in-Some.ensures ∙ sym (two_some (field_name_text c.args.name) (codes ":") c.args.line.now c.in-Some.rest.now front)

pub returns-in-None : goal.returns-in-None
returns-in-None c =
    let front : strip_prefix (field_name_text c.args.name) c.args.line.now ≡ None = ap (λ (p : List ℕ). strip_prefix p c.args.line.now) (sym (c.as_bytes.ensures.value ∙ c.text.ensures)) ∙ sym c.in-None.ensures in
    sym (two_none (field_name_text c.args.name) (codes ":") c.args.line.now front)
