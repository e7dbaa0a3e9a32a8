use Rattle.std.proofs.Common.{◌≡◌, ◌∙◌, ℕ, Some, None, Ok, Err, refl, ap, sym}
use Rattle.std.specs.Prelude.{option_map}
use Rattle.change_outcome.specs.MembersAfter.{no_member_unless_removal_needs_script, kept_member_found}
use Rattle.db_core.specs.Seen.{packages_of}
use Rattle.package_changes.specs.Placed.{package_at_old_place}
use Rattle.package_changes.specs.Seen.{change_seen, placed_name_seen}
use Rattle.change_inputs.specs.candidate_core.Values.{candidate_value}
use Rattle.change_outcome.specs.Arrivals.{IsPackageRead}
use Rattle.change_outcome.specs.NameReads.{IsNameRead, added_package_read, member_of_name_by_read}
use Rattle.base_core.proofs.Counting.{readings_none}
use Rattle.base_core.proofs.ReadAfter.{reading_as, reading_off}
use Rattle.change_inputs.specs.declared.root.Refused.TheVariants.{Disk}
use Rattle.change_outcome.proofs.NameAnswers.{answer_handed, by_any_read, part_refused, test_refused, then_refused}
use Rattle.change_outcome.proofs.NameSteps.{by_none, comes_found, comes_refused, goes}
use Rattle.change_outcome.proofs.arrivals.read_name.Goals as goal

pub returns-in_default-clause-found : goal.returns-in_default-clause-found
returns-in_default-clause-found g c =
    let h = g.T.Tree.history c.args.tree.now in
    let n = placed_name_seen c.args.name.now in (
      option_map kept_member_found (package_at_old_place (packages_of c.args.db.now) n),
      by_none (packages_of c.args.db.now) c.args.pool.now c.args.repositories.now c.args.no_scripts n h (ap (option_map change_seen) c.in_default.is),
      c.staying.ensures h,
    )

pub returns-in_err-test_removed-in-None-clause-found : goal.returns-in_err-test_removed-in-None-clause-found
returns-in_err-test_removed-in-None-clause-found g c =
    let h = g.T.Tree.history c.args.tree.now in
    let before = packages_of c.args.db.now in
    let n = placed_name_seen c.args.name.now in
    let test = no_member_unless_removal_needs_script c.args.no_scripts n.name (change_seen c.in-Some.change) (package_at_old_place before n) in
    test_refused {U = Unit {0}} (λ _. None) (IsNameRead h before) h (λ read k. test) (member_of_name_by_read before c.args.pool.now c.args.repositories.now c.args.no_scripts n) test test
    c.from_residual.result c.in_err-test_removed-in-None.field-0.0 c.from_residual.ensures.1 (by_any_read h _ _ (λ read k. refl)) c.in_err-test_removed-in-None.ensures
    (λ read k refusal same is. goes before c.args.pool.now c.args.repositories.now c.args.no_scripts n (change_seen c.in-Some.change) (ap (option_map change_seen) c.in-Some.is) (sym c.candidate.ensures ∙ ap (option_map candidate_value) c.in-None.is) read k ∙ is)

pub returns-in_err-pkg-in-Some-candidate-clause-found : goal.returns-in_err-pkg-in-Some-candidate-clause-found
returns-in_err-pkg-in-Some-candidate-clause-found g c =
    let h = g.T.Tree.history c.args.tree.now in
    let before = packages_of c.args.db.now in
    let n = placed_name_seen c.args.name.now in
    let whole = member_of_name_by_read before c.args.pool.now c.args.repositories.now c.args.no_scripts n in
    answer_handed (IsNameRead h before) h whole c.from_residual-in_err-pkg-in-Some-candidate.result c.in_err-pkg-in-Some-candidate.field-0.0 c.from_residual-in_err-pkg-in-Some-candidate.ensures.1
    (part_refused (IsPackageRead h) (IsNameRead h before) h (added_package_read c.args.repositories.now c.args.no_scripts n.name (change_seen c.in-Some.change) (candidate_value c.in-Some-candidate.c)) whole c.in_err-pkg-in-Some-candidate.field-0.0
    (comes_refused before c.args.pool.now c.args.repositories.now c.args.no_scripts n (change_seen c.in-Some.change) (candidate_value c.in-Some-candidate.c) (ap (option_map change_seen) c.in-Some.is) (sym c.candidate.ensures ∙ ap (option_map candidate_value) c.in-Some-candidate.is))
    c.in_err-pkg-in-Some-candidate.ensures.found)

pub returns-in_ok-test_removed-in-None-clause-found : goal.returns-in_ok-test_removed-in-None-clause-found
returns-in_ok-test_removed-in-None-clause-found g c =
    let h = g.T.Tree.history c.args.tree.now in
    let before = packages_of c.args.db.now in
    let n = placed_name_seen c.args.name.now in (
      None,
      by_any_read h _ _ (λ read k. goes before c.args.pool.now c.args.repositories.now c.args.no_scripts n (change_seen c.in-Some.change) (ap (option_map change_seen) c.in-Some.is) (sym c.candidate.ensures ∙ ap (option_map candidate_value) c.in-None.is) read k ∙ c.in_ok-test_removed-in-None.ensures),
      tt,
    )

pub returns-in_ok-pkg-in-Some-candidate-clause-found : goal.returns-in_ok-pkg-in-Some-candidate-clause-found
returns-in_ok-pkg-in-Some-candidate-clause-found g c =
    let h = g.T.Tree.history c.args.tree.now in
    let before = packages_of c.args.db.now in
    let n = placed_name_seen c.args.name.now in
    comes_found before c.args.pool.now c.args.repositories.now c.args.no_scripts n h (change_seen c.in-Some.change) (candidate_value c.in-Some-candidate.c) c.in_ok-pkg-in-Some-candidate.pkg
    (ap (option_map change_seen) c.in-Some.is) (sym c.candidate.ensures ∙ ap (option_map candidate_value) c.in-Some-candidate.is) c.in_ok-pkg-in-Some-candidate.ensures.found

pub returns-in_default-clause-tree : goal.returns-in_default-clause-tree
returns-in_default-clause-tree g c = readings_none Disk _ _ _

pub returns-in_err-test_removed-in-None-clause-tree : goal.returns-in_err-test_removed-in-None-clause-tree
returns-in_err-test_removed-in-None-clause-tree g c =
    let h = g.T.Tree.history c.args.tree.now in
    let counts = g.T.Tree.counts c.args.tree.now in
    then_refused {A = ℕ} {U = Unit {0}} (λ _. None) _ Disk h h counts counts 0 c.from_residual.result c.in_err-test_removed-in-None.field-0.0 c.from_residual.ensures.1 c.in_err-test_removed-in-None.ensures (readings_none Disk h counts 0)

pub returns-in_ok-test_removed-in-None-clause-tree : goal.returns-in_ok-test_removed-in-None-clause-tree
returns-in_ok-test_removed-in-None-clause-tree g c = readings_none Disk _ _ _

pub returns-in_err-pkg-in-Some-candidate-clause-tree : goal.returns-in_err-pkg-in-Some-candidate-clause-tree
returns-in_err-pkg-in-Some-candidate-clause-tree g c = reading_off _ _ _ _ _ _ c.from_residual-in_err-pkg-in-Some-candidate.result c.from_residual-in_err-pkg-in-Some-candidate.ensures.1 c.in_err-pkg-in-Some-candidate.ensures.tree

pub returns-in_ok-pkg-in-Some-candidate-clause-tree : goal.returns-in_ok-pkg-in-Some-candidate-clause-tree
returns-in_ok-pkg-in-Some-candidate-clause-tree g c = reading_as _ _ _ _ _ _ _ c.in_ok-pkg-in-Some-candidate.ensures.tree
