use Rattle.std.proofs.Common.{ℕ, List, ◌++◌, Option, ap, sym, ◌∙◌}
use Rattle.std.specs.Prelude.{codes}
use Rattle.hex.specs.Hex.{encode_lower}
use Rattle.adb_dump.specs.Dump.{schema_line_or_empty_line}
use Rattle.adb_dump.proofs.Puts.{any_on, any_told}
use Rattle.adb_dump.proofs.block.write_schema.Goals as goal

pub returns : goal.returns
returns g c =
    any_told (g.O.Out.holds) _ _ _ _ (ap (λ (bytes : List ℕ). (codes "#%SCHEMA: " ++ encode_lower bytes) ++ codes "\n") c.to_be_bytes.ensures ∙ ap (λ (word : Option ℕ). schema_line_or_empty_line word ++ codes "\n") (sym c.in-Some.is ∙ c.header_schema_if_root_table.ensures))
    (any_on (g.O.Out.holds) _ _ _ _ _ (any_on (g.O.Out.holds) _ _ _ _ _ (c.in_ok-put-in-Some.ensures) (c.in_ok-write_hex-in-Some.ensures)) (c.in_ok-put-in-Some-2.ensures))
