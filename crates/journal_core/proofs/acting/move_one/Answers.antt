use Rattle.journal_core.proofs.OldOrNew.{move_bytes}
use Rattle.journal_core.proofs.Leaving.{move_waiting}
use Rattle.journal_core.proofs.Acted.{move_moments, move_reads, moved_acting, move_proper}
use Rattle.journal_core.proofs.Keeping.{move_keeps}
use Rattle.journal_core.proofs.Images.{crash_laws}
use Rattle.journal_core.proofs.acting.move_one.Goals as goal

pub returns-clause-actions : goal.returns-clause-actions
returns-clause-actions g c = record {
  moments = move_moments crash_laws _ c.names_are_free.ensures.free c.names_are_free.ensures.few _ _ _ _ c.requires.within c.requires.behind _ _ c.stage_name.ensures c.write.ensures c.move_waiting.result c.move_waiting.ensures.moves;
  reads = move_reads crash_laws _ c.names_are_free.ensures.free c.names_are_free.ensures.few _ _ _ _ c.requires.within c.requires.behind _ _ c.stage_name.ensures c.write.ensures c.move_waiting.result c.move_waiting.ensures.moves;
  bytes = move_bytes _ c.names_are_free.ensures.free c.names_are_free.ensures.few _ _ c.args.j c.args.acted c.requires.within _ _ c.stage_name.ensures c.write.ensures c.move_waiting.result c.move_waiting.ensures.moves;
}

pub returns-clause-acting : goal.returns-clause-acting
returns-clause-acting g c =
    moved_acting crash_laws _ c.names_are_free.ensures.free c.names_are_free.ensures.few _ _ _ _ c.requires.within c.requires.behind _ _ c.stage_name.ensures c.write.ensures c.move_waiting.result c.move_waiting.ensures.moves

pub returns-clause-proper : goal.returns-clause-proper
returns-clause-proper g c =
    move_proper crash_laws _ c.names_are_free.ensures.free c.names_are_free.ensures.few (g.T.Tree.history c.args.tree.now) (g.T.Tree.history c.args.tree.now) _ _ c.requires.within c.requires.behind _ _ c.stage_name.ensures c.write.ensures _ _ c.move_waiting.ensures.proper

pub returns-clause-others : goal.returns-clause-others
returns-clause-others g c = move_keeps c.args.intent.now _ _ c.args.j c.args.acted c.requires.behind _ _ c.stage_name.ensures c.write.ensures c.move_waiting.result c.move_waiting.ensures.moves

pub returns-clause-waiting : goal.returns-clause-waiting
returns-clause-waiting g c = move_waiting _ c.names_are_free.ensures.free c.names_are_free.ensures.few _ _ c.args.j _ _ c.stage_name.ensures c.write.ensures c.move_waiting.result c.move_waiting.ensures.moves
