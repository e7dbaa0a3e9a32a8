use Rattle.std.proofs.Common.{List, ℕ, subst}
use Rattle.std.specs.Prelude.{IfOk, Option, Vec}
use Rattle.std.specs.declared.alloc.Global.{Global}
use Rattle.hint_core.specs.Contents.{ExplainsMixedUp, mixed_up_positions}
use Rattle.hint_core.proofs.ReadSteps.{no_value, out_of_memory_first}
use Rattle.hint_core.proofs.contents.contents_lines.Goals as goal

pub returns-in_err-name-clause-lines : goal.returns-in_err-name-clause-lines
returns-in_err-name-clause-lines g c = no_value _ _ c.from_residual.result c.from_residual.ensures.1

pub returns-in_err-name-clause-tree : goal.returns-in_err-name-clause-tree
returns-in_err-name-clause-tree g c = out_of_memory_first _ _ c.from_residual.result c.from_residual.ensures.1

pub returns-clause-lines : goal.returns-clause-lines
returns-clause-lines g c =
    subst (λ (name : Option (List ℕ)). IfOk c.lines_of_contents.result (λ (lines : Vec ℕ Global). ExplainsMixedUp name (mixed_up_positions c.args.refusal.now) (g.T.Tree.history c.args.tree.now) lines.items)) c.in_ok-name.ensures c.lines_of_contents.ensures.lines

pub returns-clause-tree : goal.returns-clause-tree
returns-clause-tree g c = c.lines_of_contents.ensures.tree
