use Rattle.std.proofs.Common.{None, arith}
use Rattle.base_core.specs.Tree.{files_of}
use Rattle.base_core.proofs.Counting.{readings_none}
use Rattle.base_core.proofs.ReadAfter.{both_readings, reading_as, second_reading_failed}
use Rattle.path_clashes.specs.NearName.{files_with_only_name}
use Rattle.path_clashes.specs.WrittenPaths.{name_change_of_paths}
use Rattle.path_clashes.proofs.Above.{found_told, none_at_end, none_at_start, none_past_byte, none_past_folder}
use Rattle.path_clashes.proofs.OneName.{found_alone, none_past_alone}
use Rattle.path_clashes.proofs.Observed.{observed_by, observed_by_two, observed_each}
use Rattle.path_clashes.proofs.Reading.{if_failed}
use Rattle.path_clashes.proofs.near.first_folder.Goals as goal
use Rattle.path_clashes.proofs.near.first_folder.Goals.{then-name-i-eq47+in_ok-folder+in_default, else-name-i-eq47}

pub returns-in-Some-clause-found : goal.returns-in-Some-clause-found
returns-in-Some-clause-found g c =
    observed_by_two _ _ _ _ _ c.loop-i.invariant.tree.same
    (λ v none told. found_told (name_change_of_paths c.args.written.now (g.G.IsReleased.does_release c.args.let_go.now)) (files_of v) c.args.name.now c.args.len c.loop-i.i _ c.in-Some.folder c.loop-i.invariant.long c.loop-i-test.true c.if-name-i-eq47.true c.in-Some.is none told)
    c.loop-i.invariant.none c.in_ok-folder.ensures.found

pub returns-in-Some-clause-may : goal.returns-in-Some-clause-may
returns-in-Some-clause-may g c =
    found_alone (name_change_of_paths c.args.written.now (g.G.IsReleased.does_release c.args.let_go.now)) c.args.name.now c.args.len c.loop-i.i _ c.in-Some.folder c.loop-i.invariant.long c.loop-i-test.true c.if-name-i-eq47.true c.in-Some.is c.loop-i.invariant.may c.in_ok-folder.ensures.may

pub returns-in-Some-clause-tree : goal.returns-in-Some-clause-tree
returns-in-Some-clause-tree g c = both_readings _ _ _ _ _ _ _ _ _ _ c.loop-i.invariant.tree c.in_ok-folder.ensures.tree

pub returns-in_err-folder-clause-found : goal.returns-in_err-folder-clause-found
returns-in_err-folder-clause-found g c = if_failed c.from_residual.result _ _ c.from_residual.ensures.1

pub returns-in_err-folder-clause-may : goal.returns-in_err-folder-clause-may
returns-in_err-folder-clause-may g c = if_failed c.from_residual.result _ _ c.from_residual.ensures.1

pub returns-in_err-folder-clause-tree : goal.returns-in_err-folder-clause-tree
returns-in_err-folder-clause-tree g c = second_reading_failed _ _ _ _ _ _ _ _ _ c.from_residual.result c.from_residual.ensures.1 c.loop-i.invariant.tree c.in_err-folder.ensures.tree

pub loop-i-init : goal.loop-i-init
loop-i-init g c = record {
  long = omega arith;
  may = none_at_start (name_change_of_paths c.args.written.now (g.G.IsReleased.does_release c.args.let_go.now)) (files_with_only_name None) c.args.name.now c.args.len;
  none = observed_each _ _ (λ v. none_at_start (name_change_of_paths c.args.written.now (g.G.IsReleased.does_release c.args.let_go.now)) (files_of v) c.args.name.now c.args.len);
  tree = readings_none _ _ _ None;
}

pub loop-i-preserved : goal.loop-i-preserved
loop-i-preserved g c =
    let change = (name_change_of_paths c.args.written.now (g.G.IsReleased.does_release c.args.let_go.now)) in
    let name = c.args.name.now in
    elim c.if-name-i-eq47.branch [
      | then-name-i-eq47+in_ok-folder+in_default w ↦ record {
        long = omega arith;
        may = none_past_alone change name c.args.len c.loop-i.i _ w.in_default.is w.in_ok-folder.ensures.may c.loop-i.invariant.may;
        none = observed_by_two _ _ _ _ _ c.loop-i.invariant.tree.same (λ v none told. none_past_folder change (files_of v) name c.args.len c.loop-i.i _ w.in_default.is told none) c.loop-i.invariant.none w.in_ok-folder.ensures.found;
        tree = rw w.tree-is (both_readings _ _ _ _ _ _ _ _ _ None c.loop-i.invariant.tree w.in_ok-folder.ensures.tree);
      }
      | else-name-i-eq47 w ↦ record {
        long = omega arith;
        may = none_past_byte change (files_with_only_name None) name c.args.len c.loop-i.i w.if-name-i-eq47.false c.loop-i.invariant.may;
        none = observed_by _ _ _ (λ v none. none_past_byte change (files_of v) name c.args.len c.loop-i.i w.if-name-i-eq47.false none) c.loop-i.invariant.none;
        tree = rw w.tree-is c.loop-i.invariant.tree;
      }
    ]

pub returns-clause-found : goal.returns-clause-found
returns-clause-found g c =
    observed_by _ _ _ (λ v none. none_at_end (name_change_of_paths c.args.written.now (g.G.IsReleased.does_release c.args.let_go.now)) (files_of v) c.args.name.now c.args.len c.loop-i.i c.loop-i-test.false none) c.loop-i.invariant.none

pub returns-clause-may : goal.returns-clause-may
returns-clause-may g c = none_at_end (name_change_of_paths c.args.written.now (g.G.IsReleased.does_release c.args.let_go.now)) (files_with_only_name None) c.args.name.now c.args.len c.loop-i.i c.loop-i-test.false c.loop-i.invariant.may

pub returns-clause-tree : goal.returns-clause-tree
returns-clause-tree g c = reading_as _ _ _ _ _ _ _ c.loop-i.invariant.tree
