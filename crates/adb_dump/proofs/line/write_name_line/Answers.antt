use Rattle.std.proofs.Common.{ℕ, List, ◌++◌, ap, ◌∙◌}
use Rattle.std.specs.Prelude.{codes}
use Rattle.adb_dump.specs.Margin.{margin_unless_begun}
use Rattle.adb_dump.proofs.Puts.{any_on, any_told}
use Rattle.adb_dump.proofs.line.write_name_line.Goals as goal

pub returns : goal.returns
returns g c =
    any_told (g.O.Out.holds) _ _ _ _ (ap (λ (name : List ℕ). (margin_unless_begun c.args.start.depth c.args.start.begun ++ name) ++ codes ":\n") (c.as_bytes.ensures.value ∙ c.text.ensures))
    (any_on (g.O.Out.holds) _ _ _ _ _ (any_on (g.O.Out.holds) _ _ _ _ _ c.in_ok-write_lead.ensures c.in_ok-put.ensures) c.in_ok-put-2.ensures)
