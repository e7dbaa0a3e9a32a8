use Rattle.std.proofs.Common.{◌≡◌, ◌+◌, ◌≤◌, ℕ, length, refl, sym, Ok, Err, arith}
use Rattle.base_core.proofs.Counting.{readings_none}
use Rattle.base_core.proofs.ReadAfter.{both_readings, reading_as, second_reading_failed}
use Rattle.change_inputs.specs.declared.root.Refused.TheVariants.{Disk}
use Rattle.change_inputs.specs.Inputs.{first_index_read_number}
use Rattle.db_core.specs.Seen.{packages_of}
use Rattle.package_changes.specs.Seen.{placed_name_seen, placed_names_seen, placed_replacement_from_parts}
use Rattle.change_outcome.specs.Arrivals.{arrivals_seen}
use Rattle.change_outcome.specs.NameReads.{member_of_name_by_read}
use Rattle.change_outcome.specs.declared.arrivals.Arrivals.{Arrivals}
use Rattle.change_outcome.proofs.ArrivalSteps.{read_more, read_none}
use Rattle.change_outcome.proofs.MembersFound.{PlacesLead, answer_as_before, can_be_members, explained_all, explained_failure, explained_refusal}
use Rattle.change_outcome.proofs.NameAnswers.{no_memory, then_no_memory}
use Rattle.change_outcome.proofs.arrivals.read_arrivals.Goals as goal

pub returns-in_err-member-clause-found : goal.returns-in_err-member-clause-found
returns-in_err-member-clause-found g c =
    let law : PlacesLead = record {
      name = c.places_lead_to_packages_and_candidates.ensures.name;
      change = c.places_lead_to_packages_and_candidates.ensures.change;
      old = c.places_lead_to_packages_and_candidates.ensures.old;
      new = c.places_lead_to_packages_and_candidates.ensures.new;
    } in
    λ trace again are.
    explained_refusal law (placed_replacement_from_parts c.args.db.now c.args.pool.now trace again) c.args.repositories.now c.args.no_scripts arrivals_seen (g.T.Tree.history c.args.tree.now) (placed_names_seen c.args.names.now) are c.loop-i.i (placed_name_seen c.get-name.result.now) c.loop-i.members.items
    c.from_residual.result c.in_err-member.field-0.0 c.from_residual.ensures.1 c.get-name.ensures c.loop-i.invariant.so_far
    (answer_as_before _ _ (packages_of c.args.db.now) (member_of_name_by_read (packages_of c.args.db.now) c.args.pool.now c.args.repositories.now c.args.no_scripts (placed_name_seen c.get-name.result.now)) (Err c.in_err-member.field-0.0) c.loop-i.invariant.tree.same c.in_err-member.ensures.found)

pub returns-in_err-push_member-clause-found : goal.returns-in_err-push_member-clause-found
returns-in_err-push_member-clause-found g c =
    let law : PlacesLead = record {
      name = c.places_lead_to_packages_and_candidates.ensures.name;
      change = c.places_lead_to_packages_and_candidates.ensures.change;
      old = c.places_lead_to_packages_and_candidates.ensures.old;
      new = c.places_lead_to_packages_and_candidates.ensures.new;
    } in
    λ trace again are.
    explained_failure law (placed_replacement_from_parts c.args.db.now c.args.pool.now trace again) c.args.repositories.now c.args.no_scripts arrivals_seen (g.T.Tree.history c.args.tree.now) (placed_names_seen c.args.names.now) are _
    c.from_residual-in_err-push_member.result no_memory c.from_residual-in_err-push_member.ensures.1

pub loop-i-init : goal.loop-i-init
loop-i-init g c = record {
  so_far = read_none (packages_of c.args.db.now) c.args.pool.now c.args.repositories.now c.args.no_scripts (g.T.Tree.history c.args.tree.now) (first_index_read_number + length c.args.repositories.now) (placed_names_seen c.args.names.now) _ c.new-members.ensures.items;
  tree = readings_none Disk _ _ 0;
}

pub loop-i-preserved : goal.loop-i-preserved
loop-i-preserved g c = record {
  so_far =
      read_more (packages_of c.args.db.now) c.args.pool.now c.args.repositories.now c.args.no_scripts (g.T.Tree.history c.args.tree.now) (first_index_read_number + length c.args.repositories.now) (placed_names_seen c.args.names.now) c.loop-i.i (placed_name_seen c.get-name.result.now) c.loop-i.members.items
      c.get-name.ensures c.loop-i.invariant.so_far c.in_ok-member.member _ c.in_ok-push_member.ensures
      (answer_as_before _ _ (packages_of c.args.db.now) _ (Ok c.in_ok-member.member) c.loop-i.invariant.tree.same c.in_ok-member.ensures.found);
  tree = both_readings {C = ℕ} _ _ _ _ _ _ _ _ _ 0 c.loop-i.invariant.tree c.in_ok-member.ensures.tree;
}

pub returns-clause-found : goal.returns-clause-found
returns-clause-found g c =
    let law : PlacesLead = record {
      name = c.places_lead_to_packages_and_candidates.ensures.name;
      change = c.places_lead_to_packages_and_candidates.ensures.change;
      old = c.places_lead_to_packages_and_candidates.ensures.old;
      new = c.places_lead_to_packages_and_candidates.ensures.new;
    } in
    let arrivals : Arrivals = record { members = c.loop-i.members } in
    λ trace again are.
    explained_all law (placed_replacement_from_parts c.args.db.now c.args.pool.now trace again) c.args.repositories.now c.args.no_scripts arrivals_seen (g.T.Tree.history c.args.tree.now) (placed_names_seen c.args.names.now) are c.loop-i.i arrivals c.loop-i.members.items refl
    (omega (arith, c.len-i-end.ensures, c.loop-i-test.false)) c.loop-i.invariant.so_far

pub returns-clause-members : goal.returns-clause-members
returns-clause-members g c =
    let law : PlacesLead = record {
      name = c.places_lead_to_packages_and_candidates.ensures.name;
      change = c.places_lead_to_packages_and_candidates.ensures.change;
      old = c.places_lead_to_packages_and_candidates.ensures.old;
      new = c.places_lead_to_packages_and_candidates.ensures.new;
    } in
    λ trace again are few.
    can_be_members law (placed_replacement_from_parts c.args.db.now c.args.pool.now trace again) c.args.repositories.now c.args.no_scripts (g.T.Tree.history c.args.tree.now) (placed_names_seen c.args.names.now) are c.loop-i.i c.loop-i.members.items
    (omega (arith, c.len-i-end.ensures, c.loop-i-test.false)) c.loop-i.invariant.so_far few

pub returns-in_err-member-clause-tree : goal.returns-in_err-member-clause-tree
returns-in_err-member-clause-tree g c = second_reading_failed _ _ _ _ _ _ _ _ _ c.from_residual.result c.from_residual.ensures.1 c.loop-i.invariant.tree c.in_err-member.ensures.tree

pub returns-in_err-push_member-clause-tree : goal.returns-in_err-push_member-clause-tree
returns-in_err-push_member-clause-tree g c =
    let r = c.from_residual-in_err-push_member in
    then_no_memory _ _ _ _ _ _ r.result r.ensures.1 (both_readings {C = ℕ} _ _ _ _ _ _ _ _ _ 0 c.loop-i.invariant.tree c.in_ok-member.ensures.tree)

pub returns-clause-tree : goal.returns-clause-tree
returns-clause-tree g c = reading_as _ _ _ _ _ _ _ c.loop-i.invariant.tree
