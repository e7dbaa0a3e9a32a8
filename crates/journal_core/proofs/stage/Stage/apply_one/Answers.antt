use Rattle.std.proofs.Common.{◌≡◌, refl, sym, ap}
use Rattle.base_core.specs.Crash.{Since}
use Rattle.journal_core.specs.Acting.{stage_with_actions_done}
use Rattle.journal_core.specs.Kept.{KeepsOldOrNewBytes, RecoversTo}
use Rattle.journal_core.specs.Staged.{Staging, AreIntentAndStagedPathsFree}
use Rattle.journal_core.proofs.Again.{moments_as, after_as, told_as}
use Rattle.journal_core.proofs.Keeping.{action_keeps_as}
use Rattle.journal_core.proofs.stage.Stage.apply_one.Goals as goal

pub returns-in_err-acted-clause-actions : goal.returns-in_err-acted-clause-actions
returns-in_err-acted-clause-actions g c = record {
  moments = moments_as c.args.self.now (stage_with_actions_done c.self.inside.intent c.self.inside.acted) _ _ (ap (λ (s : Staging). s.intent) (sym c.self.view_is)) (ap (λ (s : Staging). s.acted) (sym c.self.view_is)) c.act.ensures.actions.moments;
  reads =
      told_as c.args.self.now (stage_with_actions_done c.self.inside.intent c.self.inside.acted) _ (λ files v. Since (RecoversTo files) (g.T.Tree.history c.args.tree.now) (g.T.Tree.history c.act.new.tree))
      (ap (λ (s : Staging). s.intent) (sym c.self.view_is)) (ap (λ (s : Staging). s.acted) (sym c.self.view_is)) c.act.ensures.actions.reads;
  bytes =
      told_as c.args.self.now (stage_with_actions_done c.self.inside.intent c.self.inside.acted) _ (λ files v. KeepsOldOrNewBytes files v (g.T.Tree.history c.args.tree.now) (g.T.Tree.history c.act.new.tree))
      (ap (λ (s : Staging). s.intent) (sym c.self.view_is)) (ap (λ (s : Staging). s.acted) (sym c.self.view_is)) c.act.ensures.actions.bytes;
}

pub returns-clause-actions : goal.returns-clause-actions
returns-clause-actions g c = record {
  moments = moments_as c.args.self.now (stage_with_actions_done c.self.inside.intent c.self.inside.acted) _ _ (ap (λ (s : Staging). s.intent) (sym c.self.view_is)) (ap (λ (s : Staging). s.acted) (sym c.self.view_is)) c.act.ensures.actions.moments;
  reads =
      told_as c.args.self.now (stage_with_actions_done c.self.inside.intent c.self.inside.acted) _ (λ files v. Since (RecoversTo files) (g.T.Tree.history c.args.tree.now) (g.T.Tree.history c.act.new.tree))
      (ap (λ (s : Staging). s.intent) (sym c.self.view_is)) (ap (λ (s : Staging). s.acted) (sym c.self.view_is)) c.act.ensures.actions.reads;
  bytes =
      told_as c.args.self.now (stage_with_actions_done c.self.inside.intent c.self.inside.acted) _ (λ files v. KeepsOldOrNewBytes files v (g.T.Tree.history c.args.tree.now) (g.T.Tree.history c.act.new.tree))
      (ap (λ (s : Staging). s.intent) (sym c.self.view_is)) (ap (λ (s : Staging). s.acted) (sym c.self.view_is)) c.act.ensures.actions.bytes;
}

pub returns-clause-acting : goal.returns-clause-acting
returns-clause-acting g c =
    after_as c.args.self.now (stage_with_actions_done c.self.inside.intent c.self.inside.acted) (stage_with_actions_done c.self.inside.intent c.in_ok-acted.acted) _ _ _
    (ap (λ (s : Staging). s.intent) (sym c.self.view_is)) (ap (λ (s : Staging). s.acted) (sym c.self.view_is)) refl refl c.in_ok-acted.ensures.acting

pub returns-in_err-acted-clause-others : goal.returns-in_err-acted-clause-others
returns-in_err-acted-clause-others g c = action_keeps_as _ _ _ _ _ _ (ap (λ (s : Staging). s.intent) c.self.view_is) (ap (λ (s : Staging). s.acted) c.self.view_is) c.act.ensures.others

pub returns-clause-others : goal.returns-clause-others
returns-clause-others g c = action_keeps_as _ _ _ _ _ _ (ap (λ (s : Staging). s.intent) c.self.view_is) (ap (λ (s : Staging). s.acted) c.self.view_is) c.act.ensures.others

pub returns-in_err-acted-clause-proper : goal.returns-in_err-acted-clause-proper
returns-in_err-acted-clause-proper g c =
    told_as c.args.self.now (stage_with_actions_done c.self.inside.intent c.self.inside.acted) _ (λ files v. AreIntentAndStagedPathsFree files → (g.T.Tree.counts c.act.new.tree).misuses ≡ (g.T.Tree.counts c.args.tree.now).misuses)
    (ap (λ (s : Staging). s.intent) (sym c.self.view_is)) (ap (λ (s : Staging). s.acted) (sym c.self.view_is)) c.act.ensures.proper

pub returns-clause-proper : goal.returns-clause-proper
returns-clause-proper g c =
    told_as c.args.self.now (stage_with_actions_done c.self.inside.intent c.self.inside.acted) _ (λ files v. AreIntentAndStagedPathsFree files → (g.T.Tree.counts c.act.new.tree).misuses ≡ (g.T.Tree.counts c.args.tree.now).misuses)
    (ap (λ (s : Staging). s.intent) (sym c.self.view_is)) (ap (λ (s : Staging). s.acted) (sym c.self.view_is)) c.act.ensures.proper
