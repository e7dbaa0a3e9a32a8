use Rattle.std.proofs.Common.{◌∙◌, ◌++◌, ℕ, List, ap, arith}
use Rattle.base_core.specs.declared.tree.TreeFault.TheVariants.{Disk}
use Rattle.base_core.proofs.Counting.{readings_none}
use Rattle.base_core.proofs.ReadAfter.{both_readings, reading_as, second_reading_failed}
use Rattle.hint_core.specs.Repositories.{no_index_line}
use Rattle.hint_core.proofs.PackageSteps.{none_so_far, so_far_more, so_far_of_all}
use Rattle.hint_core.proofs.ReadSteps.{no_value, out_of_memory, out_of_memory_first}
use Rattle.hint_core.proofs.package_file.lines_of_repositories.Goals as goal

pub returns-in_err-lines-clause-lines : goal.returns-in_err-lines-clause-lines
returns-in_err-lines-clause-lines g c = no_value _ _ c.from_residual.result c.from_residual.ensures.1

pub returns-in_err-lines-clause-tree : goal.returns-in_err-lines-clause-tree
returns-in_err-lines-clause-tree g c = out_of_memory_first _ _ c.from_residual.result c.from_residual.ensures.1

pub loop-i-init : goal.loop-i-init
loop-i-init g c = record {
  so_far = none_so_far c.args.name.now c.args.version.now c.args.refusal.now (g.T.Tree.history c.args.tree.now) c.args.repositories.now (no_index_line c.args.repositories.now) _ (c.in_ok-lines.ensures.items ∙ c.no_index_line.ensures);
  tree = readings_none Disk _ _ 0;
}

pub returns-in_err-more-clause-lines : goal.returns-in_err-more-clause-lines
returns-in_err-more-clause-lines g c = no_value _ _ c.from_residual-in_err-more.result c.from_residual-in_err-more.ensures.1

pub returns-in_err-more-clause-tree : goal.returns-in_err-more-clause-tree
returns-in_err-more-clause-tree g c = second_reading_failed _ _ _ _ _ _ _ _ _ c.from_residual-in_err-more.result c.from_residual-in_err-more.ensures.1 c.loop-i.invariant.tree c.in_err-more.ensures.tree

pub returns-in_err-extend_from_slice-clause-lines : goal.returns-in_err-extend_from_slice-clause-lines
returns-in_err-extend_from_slice-clause-lines g c = no_value _ _ c.from_residual-in_err-extend_from_slice.result c.from_residual-in_err-extend_from_slice.ensures.1

pub returns-in_err-extend_from_slice-clause-tree : goal.returns-in_err-extend_from_slice-clause-tree
returns-in_err-extend_from_slice-clause-tree g c =
    let r = c.from_residual-in_err-extend_from_slice in
    out_of_memory _ _ _ _ _ r.result r.ensures.1 (both_readings {C = ℕ} _ _ _ _ _ _ _ _ _ 0 c.loop-i.invariant.tree c.in_ok-more.ensures.tree)

pub loop-i-preserved : goal.loop-i-preserved
loop-i-preserved g c = record {
  so_far = so_far_more c.args.name.now c.args.version.now c.args.refusal.now _ _ c.args.repositories.now c.loop-i.i (no_index_line c.args.repositories.now) c.path.result.now c.loop-i.lines.items _ _
      c.loop-i.invariant.tree.same c.path.ensures c.loop-i.invariant.so_far c.in_ok-more.ensures.lines
      (c.in_ok-extend_from_slice.ensures.items ∙ ap (λ (l : List ℕ). c.loop-i.lines.items ++ l) c.deref.ensures.value);
  tree = both_readings {C = ℕ} _ _ _ _ _ _ _ _ _ 0 c.loop-i.invariant.tree c.in_ok-more.ensures.tree;
}

pub returns-clause-lines : goal.returns-clause-lines
returns-clause-lines g c = so_far_of_all c.args.name.now c.args.version.now c.args.refusal.now _ c.args.repositories.now c.loop-i.i _ _ (omega arith) c.loop-i.invariant.so_far

pub returns-clause-tree : goal.returns-clause-tree
returns-clause-tree g c = reading_as Disk _ _ _ _ _ _ c.loop-i.invariant.tree
