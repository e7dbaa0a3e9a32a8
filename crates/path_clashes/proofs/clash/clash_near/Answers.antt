use Rattle.std.proofs.Common.{◌≡◌, ◌∙◌, None, sym}
use Rattle.std.proofs.lemmas.Slice.Eq.{bytes_eq-Decides}
use Rattle.path_clashes.specs.WrittenPaths.{name_change_of_paths}
use Rattle.base_core.specs.Tree.{files_of}
use Rattle.base_core.proofs.Counting.{readings_none}
use Rattle.base_core.proofs.ReadAfter.{both_readings, reading_as, reading_off, second_reading_failed}
use Rattle.path_clashes.proofs.MayBeNear.{above_may, below_may, may_be_none, nothing_may}
use Rattle.path_clashes.proofs.NearClash.{above_told, below_told, nothing_told, same_told}
use Rattle.path_clashes.proofs.Observed.{observed_by, observed_by_two, observed_each}
use Rattle.path_clashes.proofs.Paths.{path_is_name}
use Rattle.path_clashes.proofs.Reading.{if_failed, unread_then_memory}
use Rattle.path_clashes.proofs.clash.clash_near.Goals as goal

pub of-requires : goal.of-requires
of-requires g c = path_is_name c.args.written.now c.args.bytes.now c.requires.names c.requires.written

pub returns-in-Some-clause-near : goal.returns-in-Some-clause-near
returns-in-Some-clause-near g c =
    observed_by _ _ _
    (λ v found. above_told (name_change_of_paths c.args.written.now (g.G.IsReleased.does_release c.args.let_go.now)) (files_of v) c.args.before.now c.args.bytes.now c.common_len-len.result c.common_len-len.ensures.one c.common_len-len.ensures.same
    c.in-Some.path c.in_ok-name.name _ c.in-Some.is c.in_ok-name.ensures c.requires.written found)
    c.in_ok-path.ensures.found

pub returns-in-Some-2-clause-near : goal.returns-in-Some-2-clause-near
returns-in-Some-2-clause-near g c =
    observed_by_two _ _ _ _ _ c.in_ok-path.ensures.tree.same
    (λ v over under. below_told (name_change_of_paths c.args.written.now (g.G.IsReleased.does_release c.args.let_go.now)) (files_of v) c.args.before.now c.args.bytes.now c.common_len-len.result c.common_len-len.ensures.one c.common_len-len.ensures.same
    c.in_ok-name.name c.in-Some-2.other _ _ c.in_default.is c.in-Some-2.is c.in_ok-name.ensures c.requires.written over under)
    c.in_ok-path.ensures.found c.in_ok-other.ensures.found

pub returns-in-None-clause-near : goal.returns-in-None-clause-near
returns-in-None-clause-near g c =
    observed_by_two _ _ _ _ _ c.in_ok-path.ensures.tree.same
    (λ v over under. nothing_told (name_change_of_paths c.args.written.now (g.G.IsReleased.does_release c.args.let_go.now)) (files_of v) c.args.before.now c.args.bytes.now c.common_len-len.result c.common_len-len.ensures.one c.common_len-len.ensures.same
    c.in_ok-name.name _ _ c.in_default.is c.in-None.is c.in_ok-name.ensures over under)
    c.in_ok-path.ensures.found c.in_ok-other.ensures.found

pub returns-in-Some-clause-may : goal.returns-in-Some-clause-may
returns-in-Some-clause-may g c =
    above_may (name_change_of_paths c.args.written.now (g.G.IsReleased.does_release c.args.let_go.now)) c.args.before.now c.args.bytes.now c.common_len-len.result c.common_len-len.ensures.one c.common_len-len.ensures.same c.common_len-len.ensures.folders
    c.in-Some.path c.in_ok-name.name _ c.in-Some.is c.in_ok-name.ensures c.requires.written c.in_ok-path.ensures.may

pub returns-in-Some-2-clause-may : goal.returns-in-Some-2-clause-may
returns-in-Some-2-clause-may g c =
    below_may (name_change_of_paths c.args.written.now (g.G.IsReleased.does_release c.args.let_go.now)) c.args.before.now c.args.bytes.now c.common_len-len.result c.common_len-len.ensures.one c.common_len-len.ensures.same c.common_len-len.ensures.folders
    c.in_ok-name.name c.in-Some-2.other _ _ c.in_default.is c.in-Some-2.is c.in_ok-name.ensures c.requires.written c.in_ok-path.ensures.may c.in_ok-other.ensures.may

pub returns-in-None-clause-may : goal.returns-in-None-clause-may
returns-in-None-clause-may g c =
    nothing_may (name_change_of_paths c.args.written.now (g.G.IsReleased.does_release c.args.let_go.now)) c.args.before.now c.args.bytes.now c.common_len-len.result c.common_len-len.ensures.one c.common_len-len.ensures.same c.common_len-len.ensures.folders
    _ c.in_default.is c.in_ok-path.ensures.may

pub returns-then-eq-clause-near : goal.returns-then-eq-clause-near
returns-then-eq-clause-near g c =
    let same : c.args.before.now ≡ c.args.bytes.now = (bytes_eq-Decides _ _).0 (sym c.eq.ensures ∙ c.if-eq.true) in
    observed_each _ _ (λ v. same_told (name_change_of_paths c.args.written.now (g.G.IsReleased.does_release c.args.let_go.now)) (files_of v) _ _ same)

pub returns-then-eq-clause-may : goal.returns-then-eq-clause-may
returns-then-eq-clause-may g c = may_be_none _ _ _ ((bytes_eq-Decides _ _).0 (sym c.eq.ensures ∙ c.if-eq.true))

pub returns-then-eq-clause-tree : goal.returns-then-eq-clause-tree
returns-then-eq-clause-tree g c = readings_none _ _ _ None

pub returns-in_err-name-clause-near : goal.returns-in_err-name-clause-near
returns-in_err-name-clause-near g c = if_failed c.from_residual.result _ _ c.from_residual.ensures.1

pub returns-in_err-name-clause-may : goal.returns-in_err-name-clause-may
returns-in_err-name-clause-may g c = if_failed c.from_residual.result _ _ c.from_residual.ensures.1

pub returns-in_err-name-clause-tree : goal.returns-in_err-name-clause-tree
returns-in_err-name-clause-tree g c = unread_then_memory _ _ c.from_residual.result c.from_residual.ensures.1

pub returns-in_err-path-clause-near : goal.returns-in_err-path-clause-near
returns-in_err-path-clause-near g c = if_failed c.from_residual-in_err-path.result _ _ c.from_residual-in_err-path.ensures.1

pub returns-in_err-path-clause-may : goal.returns-in_err-path-clause-may
returns-in_err-path-clause-may g c = if_failed c.from_residual-in_err-path.result _ _ c.from_residual-in_err-path.ensures.1

pub returns-in_err-path-clause-tree : goal.returns-in_err-path-clause-tree
returns-in_err-path-clause-tree g c = reading_off _ _ _ _ _ _ c.from_residual-in_err-path.result c.from_residual-in_err-path.ensures.1 c.in_err-path.ensures.tree

pub returns-in_err-other-clause-near : goal.returns-in_err-other-clause-near
returns-in_err-other-clause-near g c = if_failed c.from_residual-in_err-other.result _ _ c.from_residual-in_err-other.ensures.1

pub returns-in_err-other-clause-may : goal.returns-in_err-other-clause-may
returns-in_err-other-clause-may g c = if_failed c.from_residual-in_err-other.result _ _ c.from_residual-in_err-other.ensures.1

pub returns-in_err-other-clause-tree : goal.returns-in_err-other-clause-tree
returns-in_err-other-clause-tree g c = second_reading_failed _ _ _ _ _ _ _ _ _ c.from_residual-in_err-other.result c.from_residual-in_err-other.ensures.1 c.in_ok-path.ensures.tree c.in_err-other.ensures.tree

pub returns-in-Some-clause-tree : goal.returns-in-Some-clause-tree
returns-in-Some-clause-tree g c = reading_as _ _ _ _ _ _ _ c.in_ok-path.ensures.tree

pub returns-in-Some-2-clause-tree : goal.returns-in-Some-2-clause-tree
returns-in-Some-2-clause-tree g c = both_readings _ _ _ _ _ _ _ _ _ _ c.in_ok-path.ensures.tree c.in_ok-other.ensures.tree

pub returns-in-None-clause-tree : goal.returns-in-None-clause-tree
returns-in-None-clause-tree g c = both_readings _ _ _ _ _ _ _ _ _ _ c.in_ok-path.ensures.tree c.in_ok-other.ensures.tree
