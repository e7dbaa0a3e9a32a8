use Rattle.std.proofs.Common.{◌+◌, List, ◌∷◌, ℕ, ap, sym, ◌∙◌, take}
use Rattle.std.proofs.lemmas.List.{take_rest}
use Rattle.gen_core.specs.Generated.{whole_lines_and_rest}
use Rattle.gen_core.proofs.TextLines.{line_at, no_line}
use Rattle.gen_core.proofs.cursor.first_line.Goals as goal

pub returns-in-Some-clause-lines : goal.returns-in-Some-clause-lines
returns-in-Some-clause-lines c =
    line_at c.args.text.now c.in-Some.end c.in-Some.ensures
    ∙ ap (λ (rest : List ℕ). take c.in-Some.end c.args.text.now ∷ (whole_lines_and_rest rest).0) (sym (take_rest c.args.text.now (c.in-Some.end + 1)))

pub returns-in-None-clause-lines : goal.returns-in-None-clause-lines
returns-in-None-clause-lines c = no_line c.args.text.now c.in-None.ensures
