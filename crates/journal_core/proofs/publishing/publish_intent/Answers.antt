use Rattle.std.proofs.Common.{◌∙◌, ◌∷◌, [], refl}
use Rattle.journal_core.specs.Acting.{stage_with_actions_done, fully_staged_stage}
use Rattle.journal_core.specs.Recovery.{intent_name, stage_name}
use Rattle.journal_core.proofs.History.{on_observable, observable_at}
use Rattle.journal_core.proofs.Counted.{error_counted, if_failed, later_counted}
use Rattle.journal_core.proofs.Published.{few_writes, write_moments, write_reads, enter_moments, enter_reads, enter_settled, enter_published, enter_acting, write_may, enter_proper}
use Rattle.base_core.specs.Tree.{CanCreate}
use Rattle.journal_core.proofs.Lasting.{published_last, written_last}
use Rattle.journal_core.proofs.Maps.{maps_on}
use Rattle.journal_core.proofs.Throughout.{free_but_intent, free_on, free_written, maps_written}
use Rattle.journal_core.proofs.publishing.publish_intent.Goals as goal

pub returns-in_err-write_waiting-clause-publishing : goal.returns-in_err-write_waiting-clause-publishing
returns-in_err-write_waiting-clause-publishing g c = record {
  moments =
      on_observable (g.T.Tree.history c.args.tree.now) _ (λ v rest is ignored contents base is_durable staged.
      write_moments (fully_staged_stage c.args.intent.now) contents base v staged refl (few_writes _ _ c.names_are_free.ensures.few) c.names_are_free.ensures.free _ c.file.ensures _ c.stage_name.ensures _ rest _ (g.T.Tree.history c.args.tree.now) is ignored is_durable c.write_waiting.ensures.moments);
  published = on_observable (g.T.Tree.history c.args.tree.now) _ (λ v rest is ignored contents base is_durable staged. if_failed c.from_residual.result _ _ c.from_residual.ensures.1);
  settled = on_observable (g.T.Tree.history c.args.tree.now) _ (λ v rest is ignored contents base is_durable staged. if_failed c.from_residual.result _ _ c.from_residual.ensures.1);
  reads =
      on_observable (g.T.Tree.history c.args.tree.now) _ (λ v rest is contents base staged.
      write_reads (fully_staged_stage c.args.intent.now) contents base v staged refl (few_writes _ _ c.names_are_free.ensures.few) c.names_are_free.ensures.free _ c.file.ensures _ c.stage_name.ensures _ rest _ (g.T.Tree.history c.args.tree.now) is c.write_waiting.ensures.unread);
  names = record {
    last = written_last _ _ (g.T.Tree.history c.args.tree.now) c.write_waiting.ensures.unread;
    others = free_written _ c.stage_name.ensures (g.T.Tree.history c.args.tree.now) _ c.write_waiting.ensures.others;
    maps = maps_written _ _ c.write_waiting.ensures.maps;
  };
  only_intent = on_observable (g.T.Tree.history c.args.tree.now) _ (λ v rest is. if_failed c.from_residual.result _ _ c.from_residual.ensures.1);
}

pub returns-clause-publishing : goal.returns-clause-publishing
returns-clause-publishing g c = record {
  moments =
      on_observable (g.T.Tree.history c.args.tree.now) _ (λ v rest is ignored contents base is_durable staged.
      enter_moments (fully_staged_stage c.args.intent.now) contents base v staged refl (few_writes _ _ c.names_are_free.ensures.few) c.names_are_free.ensures.free _ c.file.ensures _ c.stage_name.ensures _ rest _ _ is ignored is_durable c.write_waiting.ensures.moments c.in_ok-write_waiting.ensures.written c.enter.ensures.moments);
  published =
      on_observable (g.T.Tree.history c.args.tree.now) _ (λ v rest is ignored contents base is_durable staged.
      enter_published (fully_staged_stage c.args.intent.now) contents base v staged refl (few_writes _ _ c.names_are_free.ensures.few) c.names_are_free.ensures.free _ c.file.ensures _ c.stage_name.ensures _ rest _ _ is ignored is_durable c.write_waiting.ensures.moments c.enter.result c.in_ok-write_waiting.ensures.written c.enter.ensures.moments c.enter.ensures.entered);
  settled =
      on_observable (g.T.Tree.history c.args.tree.now) _ (λ v rest is ignored contents base is_durable staged.
      enter_settled (fully_staged_stage c.args.intent.now) contents base v staged refl (few_writes _ _ c.names_are_free.ensures.few) c.names_are_free.ensures.free _ c.file.ensures _ c.stage_name.ensures _ rest _ _ is ignored is_durable c.write_waiting.ensures.moments c.enter.result c.in_ok-write_waiting.ensures.written c.enter.ensures.entered);
  reads =
      on_observable (g.T.Tree.history c.args.tree.now) _ (λ v rest is contents base staged.
      enter_reads (fully_staged_stage c.args.intent.now) contents base v staged refl (few_writes _ _ c.names_are_free.ensures.few) c.names_are_free.ensures.free _ c.file.ensures _ c.stage_name.ensures _ rest _ _ is c.write_waiting.ensures.unread c.in_ok-write_waiting.ensures.written c.enter.ensures.reads);
  names = record {
    last = published_last _ _ _ c.write_waiting.ensures.unread c.enter.ensures.names.last;
    others = free_on _ _ _ (free_written _ c.stage_name.ensures (g.T.Tree.history c.args.tree.now) _ c.write_waiting.ensures.others) c.enter.ensures.names.others;
    maps = maps_on (intent_name ∷ stage_name 0 ∷ []) _ _ _ (maps_written (g.T.Tree.history c.args.tree.now) _ c.write_waiting.ensures.maps) c.enter.ensures.names.maps;
  };
  only_intent =
      free_but_intent _ c.stage_name.ensures (g.T.Tree.history c.args.tree.now) _ c.enter.result c.in_ok-write_waiting.ensures.absent
      (free_on _ _ _ (free_written _ c.stage_name.ensures (g.T.Tree.history c.args.tree.now) _ c.write_waiting.ensures.others) c.enter.ensures.names.others) c.enter.ensures.moved;
}

pub returns-clause-acting : goal.returns-clause-acting
returns-clause-acting g c =
    on_observable (g.T.Tree.history c.args.tree.now) _ (λ v rest is contents base staged.
    enter_acting (fully_staged_stage c.args.intent.now) contents base v staged refl (few_writes _ _ c.names_are_free.ensures.few) c.names_are_free.ensures.free _ c.file.ensures _ c.stage_name.ensures _ rest _ _ is (stage_with_actions_done c.args.intent.now 0) c.enter.result refl refl c.in_ok-write_waiting.ensures.written c.enter.ensures.acting)

pub returns-in_err-write_waiting-clause-proper : goal.returns-in_err-write_waiting-clause-proper
returns-in_err-write_waiting-clause-proper g c =
    on_observable (g.T.Tree.history c.args.tree.now) _ (λ v rest is contents base staged room.
    observable_at _ v rest is (λ u. CanCreate c.stage_name.result.now u → _) c.write_waiting.ensures.proper (write_may (fully_staged_stage c.args.intent.now) contents base v staged refl (few_writes _ _ c.names_are_free.ensures.few) c.names_are_free.ensures.free _ c.file.ensures _ c.stage_name.ensures _ rest (g.T.Tree.history c.args.tree.now) (g.T.Tree.history c.args.tree.now) is room))

pub returns-clause-proper : goal.returns-clause-proper
returns-clause-proper g c =
    on_observable (g.T.Tree.history c.args.tree.now) _ (λ v rest is contents base staged room.
    enter_proper (fully_staged_stage c.args.intent.now) contents base v staged refl (few_writes _ _ c.names_are_free.ensures.few) c.names_are_free.ensures.free _ c.file.ensures _ c.stage_name.ensures _ rest _ (g.T.Tree.history c.args.tree.now) is room _ _ c.stage_name-2.ensures c.name.ensures _ _ c.in_ok-write_waiting.ensures.written c.enter.ensures.proper
    ∙ observable_at _ v rest is (λ u. CanCreate c.stage_name.result.now u → _) c.write_waiting.ensures.proper (write_may (fully_staged_stage c.args.intent.now) contents base v staged refl (few_writes _ _ c.names_are_free.ensures.few) c.names_are_free.ensures.free _ c.file.ensures _ c.stage_name.ensures _ rest (g.T.Tree.history c.args.tree.now) (g.T.Tree.history c.args.tree.now) is room))

pub returns-in_err-write_waiting-clause-acting : goal.returns-in_err-write_waiting-clause-acting
returns-in_err-write_waiting-clause-acting g c = on_observable (g.T.Tree.history c.args.tree.now) _ (λ v rest is contents base staged. if_failed c.from_residual.result _ _ c.from_residual.ensures.1)

pub returns-in_err-write_waiting-clause-counts : goal.returns-in_err-write_waiting-clause-counts
returns-in_err-write_waiting-clause-counts g c = error_counted _ _ _ c.from_residual.result _ c.from_residual.ensures.1 c.in_err-write_waiting.ensures.counts

pub returns-clause-counts : goal.returns-clause-counts
returns-clause-counts g c = later_counted _ _ _ _ c.enter.result c.in_ok-write_waiting.ensures.counts c.enter.ensures.counts

pub write_waiting-requires : goal.write_waiting-requires
write_waiting-requires g c = c.stage_name.ensures

pub enter-requires-clause-place : goal.enter-requires-clause-place
enter-requires-clause-place g c = c.stage_name-2.ensures

pub enter-requires-clause-name : goal.enter-requires-clause-name
enter-requires-clause-name g c = c.name.ensures
