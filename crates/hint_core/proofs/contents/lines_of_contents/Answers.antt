use Rattle.std.proofs.Common.{◌∙◌, ℕ, sym, subst}
use Rattle.std.specs.Prelude.{IfOk, Option, Vec}
use Rattle.std.specs.declared.alloc.Global.{Global}
use Rattle.hint_core.specs.Contents.{ExplainsMixedUp}
use Rattle.hint_core.specs.declared.contents.MixedUp.{MixedUp}
use Rattle.hint_core.proofs.contents.lines_of_contents.Goals as goal

pub returns-in_default-clause-lines : goal.returns-in_default-clause-lines
returns-in_default-clause-lines g c =
    subst (λ (m : Option MixedUp). ExplainsMixedUp c.args.name.now m (g.T.Tree.history c.args.tree.now) c.new.result.items) (sym c.in_default.is ∙ c.mixed_up_positions.ensures) c.new.ensures.items

pub returns-in-Some-name-clause-lines : goal.returns-in-Some-name-clause-lines
returns-in-Some-name-clause-lines g c =
    subst (λ (m : Option MixedUp). IfOk c.file_lines.result (λ (lines : Vec ℕ Global). ExplainsMixedUp c.args.name.now m (g.T.Tree.history c.args.tree.now) lines.items)) (sym c.in-Some.is ∙ c.mixed_up_positions.ensures) (rw c.in-Some-name.is c.file_lines.ensures.lines)

pub returns-in-None-clause-lines : goal.returns-in-None-clause-lines
returns-in-None-clause-lines g c =
    subst (λ (m : Option MixedUp). ExplainsMixedUp c.args.name.now m (g.T.Tree.history c.args.tree.now) c.new-in-None.result.items) (sym c.in-Some.is ∙ c.mixed_up_positions.ensures) (rw c.in-None.is c.new-in-None.ensures.items)
