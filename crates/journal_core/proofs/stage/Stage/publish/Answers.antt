use Rattle.std.proofs.Common.{ap, ◌≡◌, IsSome, refl, rules}
use Rattle.base_core.specs.Calls.{HoldsNow}
use Rattle.base_core.specs.Crash.{Since}
use Rattle.base_core.specs.Restart.{SinceGivenEarlierAddedMoments}
use Rattle.base_core.specs.Tree.{files_of}
use Rattle.journal_core.specs.Acting.{stage_with_actions_done}
use Rattle.journal_core.specs.Recovery.{EachCrashLeavesStateOf, files_after_actions, intent_name}
use Rattle.journal_core.specs.Kept.{RecoversTo}
use Rattle.journal_core.specs.Staged.{Staging, HasEmptyStageAndFreeJournalPaths, IsCarryingOutActions, IsOldUntilCommit, IsHistoryThatPublishesIntentForFiles}
use Rattle.journal_core.proofs.Again.{acting_published, publish_as, publish_durable}
use Rattle.journal_core.proofs.stage.Stage.publish.Goals as goal

pub returns-in_err-publish_intent-clause-publishing : goal.returns-in_err-publish_intent-clause-publishing
returns-in_err-publish_intent-clause-publishing g c = record {
  moments = publish_durable (λ ignored i v. SinceGivenEarlierAddedMoments (IsOldUntilCommit ignored (files_after_actions i (files_of v)) v) (g.T.Tree.history c.args.tree.now) (g.T.Tree.history c.publish_intent.new.tree)) c.self.inside.intent c.args.self.now _ (ap (λ (s : Staging). s.intent) c.self.view_is) c.requires.all c.in_err-publish_intent.ensures.publishing.moments;
  published = search rules;
  settled = search rules;
  reads = publish_as (λ i base v. Since (λ w. IsSome (w.names intent_name) → RecoversTo (files_after_actions i (files_of v)) w) (g.T.Tree.history c.args.tree.now) (g.T.Tree.history c.publish_intent.new.tree)) c.self.inside.intent c.args.self.now _ (ap (λ (s : Staging). s.intent) c.self.view_is) c.requires.all c.in_err-publish_intent.ensures.publishing.reads;
  names = c.in_err-publish_intent.ensures.publishing.names;
  only_intent = search rules;
}

pub returns-in_err-publish_intent-clause-proper : goal.returns-in_err-publish_intent-clause-proper
returns-in_err-publish_intent-clause-proper g c =
    publish_as (λ i base v. HasEmptyStageAndFreeJournalPaths base → (g.T.Tree.counts c.publish_intent.new.tree).misuses ≡ (g.T.Tree.counts c.args.tree.now).misuses) c.self.inside.intent c.args.self.now _ (ap (λ (s : Staging). s.intent) c.self.view_is) c.requires.all c.in_err-publish_intent.ensures.proper

pub returns-clause-publishing : goal.returns-clause-publishing
returns-clause-publishing g c = record {
  moments = publish_durable (λ ignored i v. SinceGivenEarlierAddedMoments (IsOldUntilCommit ignored (files_after_actions i (files_of v)) v) (g.T.Tree.history c.args.tree.now) (g.T.Tree.history c.publish_intent.new.tree)) c.self.inside.intent c.args.self.now _ (ap (λ (s : Staging). s.intent) c.self.view_is) c.requires.all c.in_ok-publish_intent.ensures.publishing.moments;
  published = publish_durable (λ ignored i v. IsHistoryThatPublishesIntentForFiles ignored (files_after_actions i (files_of v)) v (g.T.Tree.history c.args.tree.now) (g.T.Tree.history c.publish_intent.new.tree)) c.self.inside.intent c.args.self.now _ (ap (λ (s : Staging). s.intent) c.self.view_is) c.requires.all c.in_ok-publish_intent.ensures.publishing.published;
  settled = publish_durable (λ ignored i v. HoldsNow (g.T.Tree.history c.publish_intent.new.tree) (EachCrashLeavesStateOf ignored (files_after_actions i (files_of v)))) c.self.inside.intent c.args.self.now _ (ap (λ (s : Staging). s.intent) c.self.view_is) c.requires.all c.in_ok-publish_intent.ensures.publishing.settled;
  reads = publish_as (λ i base v. Since (λ w. IsSome (w.names intent_name) → RecoversTo (files_after_actions i (files_of v)) w) (g.T.Tree.history c.args.tree.now) (g.T.Tree.history c.publish_intent.new.tree)) c.self.inside.intent c.args.self.now _ (ap (λ (s : Staging). s.intent) c.self.view_is) c.requires.all c.in_ok-publish_intent.ensures.publishing.reads;
  names = c.in_ok-publish_intent.ensures.publishing.names;
  only_intent = c.in_ok-publish_intent.ensures.publishing.only_intent;
}

pub returns-clause-proper : goal.returns-clause-proper
returns-clause-proper g c =
    publish_as (λ i base v. HasEmptyStageAndFreeJournalPaths base → (g.T.Tree.counts c.publish_intent.new.tree).misuses ≡ (g.T.Tree.counts c.args.tree.now).misuses) c.self.inside.intent c.args.self.now _ (ap (λ (s : Staging). s.intent) c.self.view_is) c.requires.all c.in_ok-publish_intent.ensures.proper

pub returns-clause-acting : goal.returns-clause-acting
returns-clause-acting g c =
    acting_published c.args.self.now _ _ _ (ap (λ (s : Staging). s.intent) c.self.view_is) refl (publish_as (λ i base v. HoldsNow (g.T.Tree.history c.publish_intent.new.tree) (IsCarryingOutActions (stage_with_actions_done i 0) (files_after_actions i (files_of v)))) c.self.inside.intent c.args.self.now _ (ap (λ (s : Staging). s.intent) c.self.view_is) c.requires.all c.in_ok-publish_intent.ensures.acting)
