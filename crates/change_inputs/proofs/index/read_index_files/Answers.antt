use Rattle.std.proofs.Common.{ℕ, arith}
use Rattle.std.specs.Prelude.{Vec}
use Rattle.std.specs.declared.alloc.Global.{Global}
use Rattle.base_core.proofs.ReadAfter.{both_readings, reading_as, second_reading_failed}
use Rattle.change_inputs.proofs.IndexSteps.{found_failed, found_handed, one_more, read_all_is, read_fault, read_step}
use Rattle.change_inputs.specs.IndexFiles.{bytes_of_each}
use Rattle.change_inputs.proofs.Reading.{reads_then_fault}
use Rattle.change_inputs.specs.declared.root.Refused.TheVariants.{Memory}
use Rattle.change_inputs.proofs.index.read_index_files.Goals as goal

pub returns-in_err-file-clause-found : goal.returns-in_err-file-clause-found
returns-in_err-file-clause-found g c =
    found_handed (λ (files : Vec (Vec ℕ Global) Global). bytes_of_each files.items) _ c.args.repositories.now c.from_residual.result _ c.from_residual.ensures.1
    (read_fault (λ (file : Vec ℕ Global). file.items) (λ (files : Vec (Vec ℕ Global) Global). bytes_of_each files.items) _ _ c.args.repositories.now c.loop-i.i c.path.result.now _ c.in_err-file.field-0.0
    c.loop-i.invariant.tree.same c.path.ensures c.loop-i.invariant.so_far c.in_err-file.ensures.found)

pub returns-in_err-push_file-clause-found : goal.returns-in_err-push_file-clause-found
returns-in_err-push_file-clause-found g c = found_failed (λ (files : Vec (Vec ℕ Global) Global). bytes_of_each files.items) _ c.args.repositories.now c.from_residual-in_err-push_file.result c.from_residual-in_err-push_file.ensures.1

pub loop-i-preserved : goal.loop-i-preserved
loop-i-preserved g c = record {
  so_far = read_step (λ (file : Vec ℕ Global). file.items) c.in_ok-file.file _ _ c.args.repositories.now c.loop-i.i c.path.result.now _ _ c.loop-i.invariant.tree.same c.path.ensures c.loop-i.invariant.so_far c.in_ok-file.ensures.found c.in_ok-push_file.ensures;
  count = one_more _ _ _ c.loop-i.i c.in_ok-push_file.ensures c.loop-i.invariant.count;
  tree = both_readings {C = ℕ} _ _ _ _ _ _ _ _ _ 0 c.loop-i.invariant.tree c.in_ok-file.ensures.tree;
}

pub returns-clause-found : goal.returns-clause-found
returns-clause-found g c = read_all_is _ c.args.repositories.now c.loop-i.i _ (omega arith) c.loop-i.invariant.so_far

pub returns-in_err-file-clause-tree : goal.returns-in_err-file-clause-tree
returns-in_err-file-clause-tree g c = second_reading_failed _ _ _ _ _ _ _ _ _ c.from_residual.result c.from_residual.ensures.1 c.loop-i.invariant.tree c.in_err-file.ensures.tree

pub returns-in_err-push_file-clause-tree : goal.returns-in_err-push_file-clause-tree
returns-in_err-push_file-clause-tree g c =
    let r = c.from_residual-in_err-push_file in
    reads_then_fault _ _ _ _ _ Memory r.result (λ is. absurd (cc)) r.ensures.1 (both_readings {C = ℕ} _ _ _ _ _ _ _ _ _ 0 c.loop-i.invariant.tree c.in_ok-file.ensures.tree)

pub returns-clause-tree : goal.returns-clause-tree
returns-clause-tree g c = reading_as _ _ _ _ _ _ _ c.loop-i.invariant.tree
