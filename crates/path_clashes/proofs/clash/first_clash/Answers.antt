use Rattle.std.proofs.Common.{◌≡◌, ◌∙◌, ◌<◌, List, ℕ, None, length, get_or, map, refl, sym, arith}
use Rattle.adb_fields.specs.JoinedPath.{joined_path}
use Rattle.base_core.specs.Tree.{files_of}
use Rattle.base_core.proofs.ReadAfter.{both_readings, reading_as, second_reading_failed}
use Rattle.path_clashes.specs.WrittenPaths.{name_change_of_paths}
use Rattle.path_clashes.proofs.MaySoFar.{all_may, more_may}
use Rattle.path_clashes.proofs.Observed.{observed_by, observed_by_two}
use Rattle.path_clashes.proofs.Paths.{long, path_counts, path_here}
use Rattle.path_clashes.proofs.Reading.{if_failed, reads_then_memory}
use Rattle.path_clashes.proofs.SoFar.{all_told, more_told, name_next}
use Rattle.path_clashes.proofs.clash.first_clash.Goals as goal

pub clash_near-requires-clause-written : goal.clash_near-requires-clause-written
clash_near-requires-clause-written g c =
    path_counts c.args.written.now c.loop-path.path-index _ c.deref-in-loop-path.result.now c.loop-path-test.true (c.deref-in-loop-path.ensures.value ∙ c.in_ok-bytes.ensures)

pub loop-path-preserved : goal.loop-path-preserved
loop-path-preserved g c =
    let names : List (List ℕ) = map joined_path c.args.written.now in
    let within : c.loop-path.path-index < length names = omega (arith, c.loop-path-test.true, long c.args.written.now) in
    let here : (d : List ℕ) → get_or names c.loop-path.path-index d ≡ c.deref-in-loop-path.result.now =
    path_here c.args.written.now c.loop-path.path-index _ c.deref-in-loop-path.result.now c.loop-path-test.true (c.deref-in-loop-path.ensures.value ∙ c.in_ok-bytes.ensures) in
    record {
      before = sym c.deref-in-loop-path.ensures.value ∙ name_next names c.loop-path.path-index c.deref-in-loop-path.result.now here;
      first =
          observed_by_two _ _ _ _ _ c.loop-path.invariant.tree.same
          (λ v so_far near. more_told (name_change_of_paths c.args.written.now (g.G.IsReleased.does_release c.args.let_go.now)) (files_of v) names c.requires.names c.requires.sorted (λ name any. any)
          c.loop-path.path-index c.deref.result.now c.deref-in-loop-path.result.now _ _ _ within here (c.deref.ensures.value ∙ c.loop-path.invariant.before) c.first_of-first.ensures so_far near)
          c.loop-path.invariant.first c.in_ok-found.ensures.near;
      may = more_may (name_change_of_paths c.args.written.now (g.G.IsReleased.does_release c.args.let_go.now)) names c.requires.names c.requires.sorted (λ name. refl)
          c.loop-path.path-index c.deref.result.now c.deref-in-loop-path.result.now _ _ _ within here (c.deref.ensures.value ∙ c.loop-path.invariant.before) c.first_of-first.ensures c.loop-path.invariant.may c.in_ok-found.ensures.may;
      tree = both_readings _ _ _ _ _ _ _ _ _ None c.loop-path.invariant.tree c.in_ok-found.ensures.tree;
    }

pub returns-clause-first : goal.returns-clause-first
returns-clause-first g c =
    let all : c.loop-path.path-index ≡ length c.args.written.now = omega arith in
    observed_by _ _ _
    (λ v so_far. all_told (name_change_of_paths c.args.written.now (g.G.IsReleased.does_release c.args.let_go.now)) (files_of v) (map joined_path c.args.written.now) (λ name. refl) c.loop-path.path-index _ (all ∙ sym (long c.args.written.now)) so_far)
    c.loop-path.invariant.first

pub returns-clause-may : goal.returns-clause-may
returns-clause-may g c =
    let all : c.loop-path.path-index ≡ length c.args.written.now = omega arith in
    all_may (name_change_of_paths c.args.written.now (g.G.IsReleased.does_release c.args.let_go.now)) (map joined_path c.args.written.now) c.requires.names c.requires.sorted (λ name. refl)
    c.loop-path.path-index _ (all ∙ sym (long c.args.written.now)) c.loop-path.invariant.may

pub returns-in_err-bytes-clause-first : goal.returns-in_err-bytes-clause-first
returns-in_err-bytes-clause-first g c = if_failed c.from_residual.result _ _ c.from_residual.ensures.1

pub returns-in_err-bytes-clause-may : goal.returns-in_err-bytes-clause-may
returns-in_err-bytes-clause-may g c = if_failed c.from_residual.result _ _ c.from_residual.ensures.1

pub returns-in_err-found-clause-first : goal.returns-in_err-found-clause-first
returns-in_err-found-clause-first g c = if_failed c.from_residual-in_err-found.result _ _ c.from_residual-in_err-found.ensures.1

pub returns-in_err-found-clause-may : goal.returns-in_err-found-clause-may
returns-in_err-found-clause-may g c = if_failed c.from_residual-in_err-found.result _ _ c.from_residual-in_err-found.ensures.1

pub returns-in_err-bytes-clause-tree : goal.returns-in_err-bytes-clause-tree
returns-in_err-bytes-clause-tree g c = reads_then_memory _ _ _ _ _ c.from_residual.result c.from_residual.ensures.1 c.loop-path.invariant.tree

pub returns-in_err-found-clause-tree : goal.returns-in_err-found-clause-tree
returns-in_err-found-clause-tree g c =
    let r = c.from_residual-in_err-found in
    second_reading_failed _ _ _ _ _ _ _ _ _ r.result r.ensures.1 c.loop-path.invariant.tree c.in_err-found.ensures.tree

pub returns-clause-tree : goal.returns-clause-tree
returns-clause-tree g c = reading_as _ _ _ _ _ _ _ c.loop-path.invariant.tree
