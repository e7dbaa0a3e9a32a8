use Rattle.std.proofs.Common.{◌≡◌, ◌⊎◌, inl, inr, ℕ, List, Ok, Err, ap, refl, sym, subst, ◌∙◌}
use Rattle.std.specs.Prelude.{IsErrOf, OnErr}
use Rattle.base_core.specs.Crash.{Since}
use Rattle.base_core.specs.Tree.{files_of}
use Rattle.base_core.specs.declared.cause.Cause.{Cause}
use Rattle.journal_commit.specs.journal_core.Recovery.{files_after_actions}
use Rattle.journal_commit.specs.journal_core.Staged.{AreIntentAndStagedPathsFree, Staging, files_with_staged}
use Rattle.journal_staging.specs.Carried.{IsCarriedTo}
use Rattle.journal_staging.specs.Sources.{EachMayDenote}
use Rattle.journal_staging.specs.declared.writes.StageFault.TheVariants.{Bad, Disk}
use Rattle.journal_staging.proofs.Carried.{carried, carried_from, carried_on, of_each, where_seen}
use Rattle.journal_staging.proofs.OneFile.{same_fault, if_disk, not_ok, on_err}
use Rattle.journal_commit.specs.Asked.{RecoveryChangesOnlyAcceptedNames}
use Rattle.journal_commit.specs.StageRun.{IsRunOfStagedChange, IsStagedChangeComplete, IsStagingRun}
use Rattle.journal_commit.proofs.Asked.{asked_same, change_promises, staging_promises}
use Rattle.journal_staging.proofs.carrying.carry_out.Goals as goal

pub returns-in_err-stage_each-clause-run : goal.returns-in_err-stage_each-clause-run
returns-in_err-stage_each-clause-run g c =
    carried c.a_new_stage_is_staging.ensures (g.T.Tree.history c.args.tree.now) (g.T.Tree.history c.check_targets.new.tree) c.args.stage.now _ _ c.args.writes.now c.requires.new c.check_targets.ensures.tree.same
    (λ v contents. IsCarriedTo {A = Unit {0}} (files_after_actions c.args.stage.now.intent (files_with_staged 1 contents (files_of v))) v (g.T.Tree.history c.args.tree.now) (g.T.Tree.history c.stage_each.new.tree) c.from_residual-in_err-stage_each.result)
    (λ v contents staging stand. record {
      run = c.a_staging_run_is_a_stage_run.ensures _ v _ _ (c.in_err-stage_each.ensures.run v (g.T.Tree.history c.args.tree.now) staging);
      ok = not_ok (λ e. e ≡ c.in_err-stage_each.field-0.0) c.from_residual-in_err-stage_each.result _ c.from_residual-in_err-stage_each.ensures.1;
      err = if_disk c.from_residual-in_err-stage_each.result c.in_err-stage_each.field-0.0 c.from_residual-in_err-stage_each.ensures.1 (c.in_err-stage_each.ensures.good contents v (g.T.Tree.history c.args.tree.now) staging stand);
    })

pub returns-in_err-stage_each-clause-bad : goal.returns-in_err-stage_each-clause-bad
returns-in_err-stage_each-clause-bad g c = λ member cause is.
    c.in_err-stage_each.ensures.bad member cause (ap Err (same_fault c.from_residual-in_err-stage_each.result c.in_err-stage_each.field-0.0 _ c.from_residual-in_err-stage_each.ensures.1 is))

pub returns-in_err-stage_each-clause-proper : goal.returns-in_err-stage_each-clause-proper
returns-in_err-stage_each-clause-proper g c =
    carried c.a_new_stage_is_staging.ensures (g.T.Tree.history c.args.tree.now) (g.T.Tree.history c.check_targets.new.tree) c.args.stage.now _ _ c.args.writes.now c.requires.new c.check_targets.ensures.tree.same
    (λ v contents. AreIntentAndStagedPathsFree (files_of v) → AreIntentAndStagedPathsFree (files_after_actions c.args.stage.now.intent (files_with_staged 1 contents (files_of v))) → (g.T.Tree.counts c.stage_each.new.tree).misuses ≡ (g.T.Tree.counts c.args.tree.now).misuses)
    (λ v contents staging stand room more.
    c.in_err-stage_each.ensures.proper contents v (g.T.Tree.history c.args.tree.now) staging stand room ∙ where_seen (g.T.Tree.history c.args.tree.now) v _ staging.start c.check_targets.ensures.tree.proper)

pub returns-in_err-carry_through-clause-run : goal.returns-in_err-carry_through-clause-run
returns-in_err-carry_through-clause-run g c =
    carried c.a_new_stage_is_staging.ensures (g.T.Tree.history c.args.tree.now) (g.T.Tree.history c.check_targets.new.tree) c.args.stage.now _ _ c.args.writes.now c.requires.new c.check_targets.ensures.tree.same
    (λ v contents. IsCarriedTo {A = Unit {0}} (files_after_actions c.args.stage.now.intent (files_with_staged 1 contents (files_of v))) v (g.T.Tree.history c.args.tree.now) (g.T.Tree.history c.carry_through.new.tree) c.from_residual-in_err-carry_through.result)
    (λ v contents staging stand. record {
      run = subst (λ (s : Staging). IsRunOfStagedChange (files_after_actions s.intent (files_with_staged 1 contents (files_of v))) v (g.T.Tree.history c.args.tree.now) (g.T.Tree.history c.carry_through.new.tree)) c.in_ok-stage_each.ensures.view
          (c.in_err-carry_through.ensures.run contents v (g.T.Tree.history c.args.tree.now) (c.in_ok-stage_each.ensures.staging contents v (g.T.Tree.history c.args.tree.now) staging stand));
      ok = not_ok (λ e. e ≡ Disk) c.from_residual-in_err-carry_through.result _ c.from_residual-in_err-carry_through.ensures.1;
      err = if_disk c.from_residual-in_err-carry_through.result Disk c.from_residual-in_err-carry_through.ensures.1 refl;
    })

pub returns-in_err-carry_through-clause-proper : goal.returns-in_err-carry_through-clause-proper
returns-in_err-carry_through-clause-proper g c =
    carried c.a_new_stage_is_staging.ensures (g.T.Tree.history c.args.tree.now) (g.T.Tree.history c.check_targets.new.tree) c.args.stage.now _ _ c.args.writes.now c.requires.new c.check_targets.ensures.tree.same
    (λ v contents. AreIntentAndStagedPathsFree (files_of v) → AreIntentAndStagedPathsFree (files_after_actions c.args.stage.now.intent (files_with_staged 1 contents (files_of v))) → (g.T.Tree.counts c.carry_through.new.tree).misuses ≡ (g.T.Tree.counts c.args.tree.now).misuses)
    (λ v contents staging stand room more.
    c.in_err-carry_through.ensures.proper contents v (g.T.Tree.history c.args.tree.now) (c.in_ok-stage_each.ensures.staging contents v (g.T.Tree.history c.args.tree.now) staging stand) room
    (subst (λ (s : Staging). AreIntentAndStagedPathsFree (files_after_actions s.intent (files_with_staged 1 contents (files_of v)))) (sym c.in_ok-stage_each.ensures.view) more)
    ∙ (c.in_ok-stage_each.ensures.proper contents v (g.T.Tree.history c.args.tree.now) staging stand room ∙ where_seen (g.T.Tree.history c.args.tree.now) v _ staging.start c.check_targets.ensures.tree.proper))

pub returns-clause-run : goal.returns-clause-run
returns-clause-run g c =
    carried c.a_new_stage_is_staging.ensures (g.T.Tree.history c.args.tree.now) (g.T.Tree.history c.check_targets.new.tree) c.args.stage.now _ _ c.args.writes.now c.requires.new c.check_targets.ensures.tree.same
    (λ v contents. IsCarriedTo {A = Unit {0}} (files_after_actions c.args.stage.now.intent (files_with_staged 1 contents (files_of v))) v (g.T.Tree.history c.args.tree.now) (g.T.Tree.history c.carry_through.new.tree) (Ok tt))
    (λ v contents staging stand. record {
      run = subst (λ (s : Staging). IsRunOfStagedChange (files_after_actions s.intent (files_with_staged 1 contents (files_of v))) v (g.T.Tree.history c.args.tree.now) (g.T.Tree.history c.carry_through.new.tree)) c.in_ok-stage_each.ensures.view
          (c.in_ok-carry_through.ensures.run contents v (g.T.Tree.history c.args.tree.now) (c.in_ok-stage_each.ensures.staging contents v (g.T.Tree.history c.args.tree.now) staging stand));
      ok = subst (λ (s : Staging). IsStagedChangeComplete (files_after_actions s.intent (files_with_staged 1 contents (files_of v))) v (g.T.Tree.history c.carry_through.new.tree)) c.in_ok-stage_each.ensures.view
          (c.in_ok-carry_through.ensures.done contents v (g.T.Tree.history c.args.tree.now) (c.in_ok-stage_each.ensures.staging contents v (g.T.Tree.history c.args.tree.now) staging stand));
      err = tt;
    })

pub returns-clause-proper : goal.returns-clause-proper
returns-clause-proper g c =
    carried c.a_new_stage_is_staging.ensures (g.T.Tree.history c.args.tree.now) (g.T.Tree.history c.check_targets.new.tree) c.args.stage.now _ _ c.args.writes.now c.requires.new c.check_targets.ensures.tree.same
    (λ v contents. AreIntentAndStagedPathsFree (files_of v) → AreIntentAndStagedPathsFree (files_after_actions c.args.stage.now.intent (files_with_staged 1 contents (files_of v))) → (g.T.Tree.counts c.carry_through.new.tree).misuses ≡ (g.T.Tree.counts c.args.tree.now).misuses)
    (λ v contents staging stand room more.
    c.in_ok-carry_through.ensures.proper contents v (g.T.Tree.history c.args.tree.now) (c.in_ok-stage_each.ensures.staging contents v (g.T.Tree.history c.args.tree.now) staging stand) room
    (subst (λ (s : Staging). AreIntentAndStagedPathsFree (files_after_actions s.intent (files_with_staged 1 contents (files_of v)))) (sym c.in_ok-stage_each.ensures.view) more)
    ∙ (c.in_ok-stage_each.ensures.proper contents v (g.T.Tree.history c.args.tree.now) staging stand room ∙ where_seen (g.T.Tree.history c.args.tree.now) v _ staging.start c.check_targets.ensures.tree.proper))

pub returns-in_err-stage_each-clause-listed : goal.returns-in_err-stage_each-clause-listed
returns-in_err-stage_each-clause-listed g c = of_each (g.T.Tree.history c.args.tree.now) _ (λ v unread empty.
    not_ok (λ e. e ≡ c.in_err-stage_each.field-0.0) c.from_residual-in_err-stage_each.result _ c.from_residual-in_err-stage_each.ensures.1)

pub returns-in_err-carry_through-clause-listed : goal.returns-in_err-carry_through-clause-listed
returns-in_err-carry_through-clause-listed g c = of_each (g.T.Tree.history c.args.tree.now) _ (λ v unread empty.
    not_ok (λ e. e ≡ Disk) c.from_residual-in_err-carry_through.result _ c.from_residual-in_err-carry_through.ensures.1)

pub returns-clause-listed : goal.returns-clause-listed
returns-clause-listed g c =
    carried_on c.a_new_stage_is_staging.ensures (g.T.Tree.history c.args.tree.now) (g.T.Tree.history c.check_targets.new.tree) c.args.stage.now _ _ c.requires.new c.check_targets.ensures.tree.same
    (λ v. (contents : List (List ℕ)) × EachMayDenote c.args.writes.now contents × IsStagedChangeComplete (files_after_actions c.args.stage.now.intent (files_with_staged 1 contents (files_of v))) v (g.T.Tree.history c.carry_through.new.tree))
    (λ v staging.
    let found = c.in_ok-stage_each.ensures.listed v (g.T.Tree.history c.args.tree.now) staging in (
      found.0,
      found.1,
      subst (λ (s : Staging). IsStagedChangeComplete (files_after_actions s.intent (files_with_staged 1 found.0 (files_of v))) v (g.T.Tree.history c.carry_through.new.tree)) c.in_ok-stage_each.ensures.view
          (c.in_ok-carry_through.ensures.done found.0 v (g.T.Tree.history c.args.tree.now) found.2),
    ))

pub returns-in_err-check_targets-clause-unpublished : goal.returns-in_err-check_targets-clause-unpublished
returns-in_err-check_targets-clause-unpublished g c =
    carried_on c.a_new_stage_is_staging.ensures (g.T.Tree.history c.args.tree.now) (g.T.Tree.history c.check_targets.new.tree) c.args.stage.now _ _ c.requires.new c.check_targets.ensures.tree.same
    (λ v. (member : ℕ) (cause : Cause) → IsErrOf c.from_residual.result (Bad member cause) → IsStagingRun v (g.T.Tree.history c.args.tree.now) (g.T.Tree.history c.check_targets.new.tree))
    (λ v staging member cause is. staging.run)

pub returns-in_err-check_targets-clause-cut_off : goal.returns-in_err-check_targets-clause-cut_off
returns-in_err-check_targets-clause-cut_off g c =
    carried_on c.a_new_stage_is_staging.ensures (g.T.Tree.history c.args.tree.now) (g.T.Tree.history c.check_targets.new.tree) c.args.stage.now _ _ c.requires.new c.check_targets.ensures.tree.same
    (λ v. OnErr c.from_residual.result (IsStagingRun v (g.T.Tree.history c.args.tree.now) (g.T.Tree.history c.check_targets.new.tree) ⊎ ((contents : List (List ℕ)) × EachMayDenote c.args.writes.now contents × IsRunOfStagedChange (files_after_actions c.args.stage.now.intent (files_with_staged 1 contents (files_of v))) v (g.T.Tree.history c.args.tree.now) (g.T.Tree.history c.check_targets.new.tree))))
    (λ v staging. on_err c.from_residual.result _ (inl staging.run))

pub returns-in_err-stage_each-clause-unpublished : goal.returns-in_err-stage_each-clause-unpublished
returns-in_err-stage_each-clause-unpublished g c =
    carried_on c.a_new_stage_is_staging.ensures (g.T.Tree.history c.args.tree.now) (g.T.Tree.history c.check_targets.new.tree) c.args.stage.now _ _ c.requires.new c.check_targets.ensures.tree.same
    (λ v. (member : ℕ) (cause : Cause) → IsErrOf c.from_residual-in_err-stage_each.result (Bad member cause) → IsStagingRun v (g.T.Tree.history c.args.tree.now) (g.T.Tree.history c.stage_each.new.tree))
    (λ v staging member cause is. c.in_err-stage_each.ensures.run v (g.T.Tree.history c.args.tree.now) staging)

pub returns-in_err-stage_each-clause-cut_off : goal.returns-in_err-stage_each-clause-cut_off
returns-in_err-stage_each-clause-cut_off g c =
    carried_on c.a_new_stage_is_staging.ensures (g.T.Tree.history c.args.tree.now) (g.T.Tree.history c.check_targets.new.tree) c.args.stage.now _ _ c.requires.new c.check_targets.ensures.tree.same
    (λ v. OnErr c.from_residual-in_err-stage_each.result (IsStagingRun v (g.T.Tree.history c.args.tree.now) (g.T.Tree.history c.stage_each.new.tree) ⊎ ((contents : List (List ℕ)) × EachMayDenote c.args.writes.now contents × IsRunOfStagedChange (files_after_actions c.args.stage.now.intent (files_with_staged 1 contents (files_of v))) v (g.T.Tree.history c.args.tree.now) (g.T.Tree.history c.stage_each.new.tree))))
    (λ v staging. on_err c.from_residual-in_err-stage_each.result _ (inl (c.in_err-stage_each.ensures.run v (g.T.Tree.history c.args.tree.now) staging)))

pub returns-in_err-carry_through-clause-unpublished : goal.returns-in_err-carry_through-clause-unpublished
returns-in_err-carry_through-clause-unpublished g c = of_each (g.T.Tree.history c.args.tree.now) _ (λ v unread empty member cause is.
    cc (same_fault c.from_residual-in_err-carry_through.result Disk (Bad member cause) c.from_residual-in_err-carry_through.ensures.1 is))

pub returns-in_err-carry_through-clause-cut_off : goal.returns-in_err-carry_through-clause-cut_off
returns-in_err-carry_through-clause-cut_off g c =
    carried_on c.a_new_stage_is_staging.ensures (g.T.Tree.history c.args.tree.now) (g.T.Tree.history c.check_targets.new.tree) c.args.stage.now _ _ c.requires.new c.check_targets.ensures.tree.same
    (λ v. OnErr c.from_residual-in_err-carry_through.result (IsStagingRun v (g.T.Tree.history c.args.tree.now) (g.T.Tree.history c.carry_through.new.tree) ⊎ ((contents : List (List ℕ)) × EachMayDenote c.args.writes.now contents × IsRunOfStagedChange (files_after_actions c.args.stage.now.intent (files_with_staged 1 contents (files_of v))) v (g.T.Tree.history c.args.tree.now) (g.T.Tree.history c.carry_through.new.tree))))
    (λ v staging.
    let found = c.in_ok-stage_each.ensures.listed v (g.T.Tree.history c.args.tree.now) staging in
    on_err c.from_residual-in_err-carry_through.result _ (inr (
      found.0,
      found.1,
      subst (λ (s : Staging). IsRunOfStagedChange (files_after_actions s.intent (files_with_staged 1 found.0 (files_of v))) v (g.T.Tree.history c.args.tree.now) (g.T.Tree.history c.carry_through.new.tree)) c.in_ok-stage_each.ensures.view
          (c.in_err-carry_through.ensures.run found.0 v (g.T.Tree.history c.args.tree.now) found.2),
    )))

pub returns-clause-unpublished : goal.returns-clause-unpublished
returns-clause-unpublished g c = of_each (g.T.Tree.history c.args.tree.now) _ (λ v unread empty member cause is. cc is)

pub returns-clause-cut_off : goal.returns-clause-cut_off
returns-clause-cut_off g c = of_each (g.T.Tree.history c.args.tree.now) _ (λ v unread empty. tt)

pub returns-in_err-stage_each-clause-promised : goal.returns-in_err-stage_each-clause-promised
returns-in_err-stage_each-clause-promised g c =
    carried_from c.a_new_stage_is_staging.ensures (g.T.Tree.history c.args.tree.now) (g.T.Tree.history c.check_targets.new.tree) c.args.stage.now _ _ c.requires.new c.check_targets.ensures.tree.same
    (λ v. Since (RecoveryChangesOnlyAcceptedNames g.T.Tree.accepts (files_of v)) (g.T.Tree.history c.args.tree.now) (g.T.Tree.history c.stage_each.new.tree))
    (λ v unread empty staging. staging_promises g.T.Tree.accepts v unread empty _ _ (c.in_err-stage_each.ensures.run v (g.T.Tree.history c.args.tree.now) staging))

pub returns-in_err-carry_through-clause-promised : goal.returns-in_err-carry_through-clause-promised
returns-in_err-carry_through-clause-promised g c =
    carried_from c.a_new_stage_is_staging.ensures (g.T.Tree.history c.args.tree.now) (g.T.Tree.history c.check_targets.new.tree) c.args.stage.now _ _ c.requires.new c.check_targets.ensures.tree.same
    (λ v. Since (RecoveryChangesOnlyAcceptedNames g.T.Tree.accepts (files_of v)) (g.T.Tree.history c.args.tree.now) (g.T.Tree.history c.carry_through.new.tree))
    (λ v unread empty staging.
    let found = c.in_ok-stage_each.ensures.listed v (g.T.Tree.history c.args.tree.now) staging in
    change_promises g.T.Tree.accepts v unread empty c.args.stage.now.intent found.0 c.names_are_free.ensures.free c.in_ok-check_targets.ensures.accepted _ _
    (subst (λ (s : Staging). IsRunOfStagedChange (files_after_actions s.intent (files_with_staged 1 found.0 (files_of v))) v (g.T.Tree.history c.args.tree.now) (g.T.Tree.history c.carry_through.new.tree)) c.in_ok-stage_each.ensures.view
    (c.in_err-carry_through.ensures.run found.0 v (g.T.Tree.history c.args.tree.now) found.2)))

pub returns-clause-promised : goal.returns-clause-promised
returns-clause-promised g c =
    carried_from c.a_new_stage_is_staging.ensures (g.T.Tree.history c.args.tree.now) (g.T.Tree.history c.check_targets.new.tree) c.args.stage.now _ _ c.requires.new c.check_targets.ensures.tree.same
    (λ v. Since (RecoveryChangesOnlyAcceptedNames g.T.Tree.accepts (files_of v)) (g.T.Tree.history c.args.tree.now) (g.T.Tree.history c.carry_through.new.tree))
    (λ v unread empty staging.
    let found = c.in_ok-stage_each.ensures.listed v (g.T.Tree.history c.args.tree.now) staging in
    change_promises g.T.Tree.accepts v unread empty c.args.stage.now.intent found.0 c.names_are_free.ensures.free c.in_ok-check_targets.ensures.accepted _ _
    (subst (λ (s : Staging). IsRunOfStagedChange (files_after_actions s.intent (files_with_staged 1 found.0 (files_of v))) v (g.T.Tree.history c.args.tree.now) (g.T.Tree.history c.carry_through.new.tree)) c.in_ok-stage_each.ensures.view
    (c.in_ok-carry_through.ensures.run found.0 v (g.T.Tree.history c.args.tree.now) found.2)))

pub returns-in_err-check_targets-clause-run : goal.returns-in_err-check_targets-clause-run
returns-in_err-check_targets-clause-run g c =
    carried c.a_new_stage_is_staging.ensures (g.T.Tree.history c.args.tree.now) (g.T.Tree.history c.check_targets.new.tree) c.args.stage.now _ _ c.args.writes.now c.requires.new c.check_targets.ensures.tree.same
    (λ v contents. IsCarriedTo {A = Unit {0}} (files_after_actions c.args.stage.now.intent (files_with_staged 1 contents (files_of v))) v (g.T.Tree.history c.args.tree.now) (g.T.Tree.history c.check_targets.new.tree) c.from_residual.result)
    (λ v contents staging stand. record {
      run = c.a_staging_run_is_a_stage_run.ensures _ v _ _ staging.run;
      ok = not_ok (λ e. e ≡ Disk) c.from_residual.result _ c.from_residual.ensures.1;
      err = if_disk c.from_residual.result Disk c.from_residual.ensures.1 refl;
    })

pub returns-in_err-check_targets-clause-promised : goal.returns-in_err-check_targets-clause-promised
returns-in_err-check_targets-clause-promised g c = asked_same g.T.Tree.accepts _ _ c.check_targets.ensures.tree.same

pub returns-in_err-check_targets-clause-proper : goal.returns-in_err-check_targets-clause-proper
returns-in_err-check_targets-clause-proper g c =
    carried c.a_new_stage_is_staging.ensures (g.T.Tree.history c.args.tree.now) (g.T.Tree.history c.check_targets.new.tree) c.args.stage.now _ _ c.args.writes.now c.requires.new c.check_targets.ensures.tree.same
    (λ v contents. AreIntentAndStagedPathsFree (files_of v) → AreIntentAndStagedPathsFree (files_after_actions c.args.stage.now.intent (files_with_staged 1 contents (files_of v))) → (g.T.Tree.counts c.check_targets.new.tree).misuses ≡ (g.T.Tree.counts c.args.tree.now).misuses)
    (λ v contents staging stand room more. where_seen (g.T.Tree.history c.args.tree.now) v _ staging.start c.check_targets.ensures.tree.proper)
