use Rattle.std.proofs.Common.{◌∙◌, ◌++◌, ℕ, List, Option, ap, subst}
use Rattle.base_core.specs.declared.tree.TreeFault.TheVariants.{Disk}
use Rattle.base_core.proofs.ReadAfter.{reading_as, reading_off}
use Rattle.hint_core.specs.Contents.{ExplainsMixedUp, mixed_up_positions}
use Rattle.hint_core.specs.PackageFile.{package_file_line}
use Rattle.hint_core.proofs.ReadSteps.{no_value, out_of_memory, out_of_memory_first}
use Rattle.hint_core.proofs.package_file.lines_beside.Goals as goal

pub returns-in_err-push_package_file_line-clause-lines : goal.returns-in_err-push_package_file_line-clause-lines
returns-in_err-push_package_file_line-clause-lines g c = no_value _ _ c.from_residual.result c.from_residual.ensures.1

pub returns-in_err-push_package_file_line-clause-tree : goal.returns-in_err-push_package_file_line-clause-tree
returns-in_err-push_package_file_line-clause-tree g c = out_of_memory_first _ _ c.from_residual.result c.from_residual.ensures.1

pub returns-in_err-file-clause-lines : goal.returns-in_err-file-clause-lines
returns-in_err-file-clause-lines g c = no_value _ _ c.from_residual-in_err-file.result c.from_residual-in_err-file.ensures.1

pub returns-in_err-file-clause-tree : goal.returns-in_err-file-clause-tree
returns-in_err-file-clause-tree g c = out_of_memory_first _ _ c.from_residual-in_err-file.result c.from_residual-in_err-file.ensures.1

pub returns-in_err-contents-clause-lines : goal.returns-in_err-contents-clause-lines
returns-in_err-contents-clause-lines g c = no_value _ _ c.from_residual-in_err-contents.result c.from_residual-in_err-contents.ensures.1

pub returns-in_err-contents-clause-tree : goal.returns-in_err-contents-clause-tree
returns-in_err-contents-clause-tree g c = reading_off Disk _ _ _ _ _ c.from_residual-in_err-contents.result c.from_residual-in_err-contents.ensures.1 c.in_err-contents.ensures.tree

pub returns-in_err-extend_from_slice-clause-lines : goal.returns-in_err-extend_from_slice-clause-lines
returns-in_err-extend_from_slice-clause-lines g c = no_value _ _ c.from_residual-in_err-extend_from_slice.result c.from_residual-in_err-extend_from_slice.ensures.1

pub returns-in_err-extend_from_slice-clause-tree : goal.returns-in_err-extend_from_slice-clause-tree
returns-in_err-extend_from_slice-clause-tree g c = out_of_memory _ _ _ _ _ c.from_residual-in_err-extend_from_slice.result c.from_residual-in_err-extend_from_slice.ensures.1 c.in_ok-contents.ensures.tree

pub returns-clause-lines : goal.returns-clause-lines
returns-clause-lines g c =
    let line : List ℕ = package_file_line c.args.name.now c.args.version.now c.args.index.now in (
      c.in_ok-contents.contents.items,
      subst (λ (file : Option (List ℕ)). ExplainsMixedUp file (mixed_up_positions c.args.refusal.now) (g.T.Tree.history c.args.tree.now) c.in_ok-contents.contents.items) c.in_ok-file.ensures c.in_ok-contents.ensures.lines,
      c.in_ok-extend_from_slice.ensures.items
          ∙ (ap (λ (l : List ℕ). l ++ c.deref.result.now) (c.in_ok-push_package_file_line.ensures ∙ ap (λ (l : List ℕ). l ++ line) c.new-lines.ensures.items)
          ∙ ap (λ (l : List ℕ). line ++ l) c.deref.ensures.value),
    )

pub returns-clause-tree : goal.returns-clause-tree
returns-clause-tree g c = reading_as Disk _ _ _ _ _ _ c.in_ok-contents.ensures.tree
