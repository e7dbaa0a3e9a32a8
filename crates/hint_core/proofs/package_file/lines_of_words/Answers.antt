use Rattle.std.proofs.Common.{◌∙◌, ℕ, Bool, sym, subst}
use Rattle.std.specs.Prelude.{IfOk, Vec}
use Rattle.std.specs.declared.alloc.Global.{Global}
use Rattle.base_core.specs.declared.tree.TreeFault.TheVariants.{Disk}
use Rattle.base_core.proofs.Counting.{readings_none}
use Rattle.hint_core.specs.PackageFile.{ExplainsIfExplained}
use Rattle.hint_core.proofs.ReadSteps.{no_value, out_of_memory_first}
use Rattle.hint_core.proofs.package_file.lines_of_words.Goals as goal

pub returns-in_err-is_explained-clause-lines : goal.returns-in_err-is_explained-clause-lines
returns-in_err-is_explained-clause-lines g c = no_value _ _ c.from_residual.result c.from_residual.ensures.1

pub returns-in_err-is_explained-clause-tree : goal.returns-in_err-is_explained-clause-tree
returns-in_err-is_explained-clause-tree g c = out_of_memory_first _ _ c.from_residual.result c.from_residual.ensures.1

pub returns-then-not-branch-clause-lines : goal.returns-then-not-branch-clause-lines
returns-then-not-branch-clause-lines g c =
    subst (λ (b : Bool). ExplainsIfExplained b c.args.refusal.now (g.T.Tree.history c.args.tree.now) c.new.result.items) (sym (sym c.in_ok-is_explained.ensures ∙ c.if-not-branch.true)) c.new.ensures.items

pub returns-then-not-branch-clause-tree : goal.returns-then-not-branch-clause-tree
returns-then-not-branch-clause-tree g c = readings_none Disk _ _ _

pub returns-clause-lines : goal.returns-clause-lines
returns-clause-lines g c =
    subst (λ (b : Bool). IfOk c.lines_of_refusal.result (λ (lines : Vec ℕ Global). ExplainsIfExplained b c.args.refusal.now (g.T.Tree.history c.args.tree.now) lines.items)) (sym (sym c.in_ok-is_explained.ensures ∙ c.if-not-branch.false)) c.lines_of_refusal.ensures.lines

pub returns-clause-tree : goal.returns-clause-tree
returns-clause-tree g c = c.lines_of_refusal.ensures.tree
