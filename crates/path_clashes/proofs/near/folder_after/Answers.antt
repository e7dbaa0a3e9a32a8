use Rattle.std.proofs.Common.{None, Some, sym, ap, ◌∙◌}
use Rattle.std.specs.Prelude.{is_some}
use Rattle.base_core.proofs.Counting.{readings_none}
use Rattle.base_core.proofs.ReadAfter.{reading_as, reading_off}
use Rattle.base_core.specs.Tree.{files_of}
use Rattle.path_clashes.specs.WrittenPaths.{name_change_of_paths}
use Rattle.path_clashes.proofs.FolderAfter.{file_alone, file_found, nothing_found, written_alone, written_found}
use Rattle.path_clashes.proofs.NoName.{no_name_after}
use Rattle.path_clashes.proofs.Observed.{observed_by, observed_each, observed_whole}
use Rattle.path_clashes.proofs.OneName.{no_name_alone, none_after}
use Rattle.path_clashes.proofs.Reading.{if_failed, unread_then_memory}
use Rattle.path_clashes.proofs.near.folder_after.Goals as goal
use Rattle.path_clashes.proofs.near.folder_after.Goals.{then-is_one_of_paths-via-then-is_one_of_paths, then-is_one_of_paths-via-else-is_one_of_paths+in_ok-is_name_present+then-branch}

pub returns-in_default-clause-found : goal.returns-in_default-clause-found
returns-in_default-clause-found g c =
    observed_by _ _ _ (λ v whole. no_name_after c.args.written.now (g.G.IsReleased.does_release c.args.let_go.now) v c.args.folder.now c.requires.names whole (sym c.in_ok-name.ensures.when ∙ ap is_some c.in_default.is))
    (observed_whole _ (g.met.T.Tree.whole c.args.tree.now))

pub returns-in_default-clause-may : goal.returns-in_default-clause-may
returns-in_default-clause-may g c = no_name_alone c.args.written.now (g.G.IsReleased.does_release c.args.let_go.now) c.args.folder.now c.requires.names (sym c.in_ok-name.ensures.when ∙ ap is_some c.in_default.is)

pub returns-in_default-clause-tree : goal.returns-in_default-clause-tree
returns-in_default-clause-tree g c = readings_none _ _ _ None

pub returns-in_err-name-clause-found : goal.returns-in_err-name-clause-found
returns-in_err-name-clause-found g c = if_failed c.from_residual.result _ _ c.from_residual.ensures.1

pub returns-in_err-name-clause-may : goal.returns-in_err-name-clause-may
returns-in_err-name-clause-may g c = if_failed c.from_residual.result _ _ c.from_residual.ensures.1

pub returns-in_err-name-clause-tree : goal.returns-in_err-name-clause-tree
returns-in_err-name-clause-tree g c = unread_then_memory _ _ c.from_residual.result c.from_residual.ensures.1

pub returns-in_err-is_name_present-clause-found : goal.returns-in_err-is_name_present-clause-found
returns-in_err-is_name_present-clause-found g c = if_failed c.from_residual-in_err-is_name_present.result _ _ c.from_residual-in_err-is_name_present.ensures.1

pub returns-in_err-is_name_present-clause-may : goal.returns-in_err-is_name_present-clause-may
returns-in_err-is_name_present-clause-may g c = if_failed c.from_residual-in_err-is_name_present.result _ _ c.from_residual-in_err-is_name_present.ensures.1

pub returns-in_err-is_name_present-clause-tree : goal.returns-in_err-is_name_present-clause-tree
returns-in_err-is_name_present-clause-tree g c =
    let r = c.from_residual-in_err-is_name_present in
    reading_off _ _ _ _ _ _ r.result r.ensures.1 c.in_err-is_name_present.ensures.tree

pub returns-then-is_one_of_paths-clause-found : goal.returns-then-is_one_of_paths-clause-found
returns-then-is_one_of_paths-clause-found g c = elim c.then-is_one_of_paths.branch [
  | then-is_one_of_paths-via-then-is_one_of_paths w ↦ observed_each _ _ (λ v. written_found (name_change_of_paths c.args.written.now (g.G.IsReleased.does_release c.args.let_go.now)) c.args.folder.now c.in-Some.name _ c.in-Some.is c.in_ok-name.ensures.value (files_of v) (sym c.is_one_of_paths.ensures ∙ w.if-is_one_of_paths.true))
  | then-is_one_of_paths-via-else-is_one_of_paths+in_ok-is_name_present+then-branch w ↦
      observed_by _ _ _ (λ v told. file_found (name_change_of_paths c.args.written.now (g.G.IsReleased.does_release c.args.let_go.now)) c.args.folder.now c.in-Some.name _ c.in-Some.is c.in_ok-name.ensures.value (files_of v) _ told w.if-branch.true) w.in_ok-is_name_present.ensures.answer
]

pub returns-then-is_one_of_paths-clause-may : goal.returns-then-is_one_of_paths-clause-may
returns-then-is_one_of_paths-clause-may g c = elim c.then-is_one_of_paths.branch [
  | then-is_one_of_paths-via-then-is_one_of_paths w ↦ written_alone (name_change_of_paths c.args.written.now (g.G.IsReleased.does_release c.args.let_go.now)) c.args.folder.now c.in-Some.name _ c.in-Some.is c.in_ok-name.ensures.value (sym c.is_one_of_paths.ensures ∙ w.if-is_one_of_paths.true)
  | then-is_one_of_paths-via-else-is_one_of_paths+in_ok-is_name_present+then-branch w ↦ file_alone (name_change_of_paths c.args.written.now (g.G.IsReleased.does_release c.args.let_go.now)) c.args.folder.now c.in-Some.name _ c.in-Some.is c.in_ok-name.ensures.value _ w.in_ok-is_name_present.ensures.stays w.if-branch.true
]

pub returns-then-is_one_of_paths-clause-tree : goal.returns-then-is_one_of_paths-clause-tree
returns-then-is_one_of_paths-clause-tree g c = elim c.then-is_one_of_paths.branch [
  | then-is_one_of_paths-via-then-is_one_of_paths w ↦ rw w.tree-is (readings_none _ _ _ (Some c.in-Some.name))
  | then-is_one_of_paths-via-else-is_one_of_paths+in_ok-is_name_present+then-branch w ↦ rw w.tree-is (reading_as _ _ _ _ _ _ _ w.in_ok-is_name_present.ensures.tree)
]

pub returns-clause-found : goal.returns-clause-found
returns-clause-found g c =
    observed_by _ _ _ (λ v told. nothing_found (name_change_of_paths c.args.written.now (g.G.IsReleased.does_release c.args.let_go.now)) c.args.folder.now c.in-Some.name _ c.in-Some.is c.in_ok-name.ensures.value (files_of v) _ (sym c.is_one_of_paths.ensures ∙ c.if-is_one_of_paths.false) told c.if-branch.false)
    c.in_ok-is_name_present.ensures.answer

pub returns-clause-may : goal.returns-clause-may
returns-clause-may g c = none_after (name_change_of_paths c.args.written.now (g.G.IsReleased.does_release c.args.let_go.now)) c.args.folder.now (sym c.is_one_of_paths.ensures ∙ c.if-is_one_of_paths.false)

pub returns-clause-tree : goal.returns-clause-tree
returns-clause-tree g c = reading_as _ _ _ _ _ _ _ c.in_ok-is_name_present.ensures.tree
