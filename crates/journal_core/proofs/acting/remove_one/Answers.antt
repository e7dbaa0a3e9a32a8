use Rattle.journal_core.proofs.OldOrNew.{removal_bytes}
use Rattle.journal_core.proofs.Leaving.{removal_waiting}
use Rattle.journal_core.proofs.Acted.{remove_moments, remove_reads, removed_acting}
use Rattle.journal_core.proofs.Keeping.{removal_keeps}
use Rattle.journal_core.proofs.Images.{crash_laws}
use Rattle.journal_core.proofs.acting.remove_one.Goals as goal

pub returns-clause-actions : goal.returns-clause-actions
returns-clause-actions g c = record {
  moments = remove_moments crash_laws _ c.names_are_free.ensures.free c.names_are_free.ensures.few _ _ _ c.requires _ c.removal.ensures c.remove.result c.remove.ensures.moves;
  reads = remove_reads crash_laws _ c.names_are_free.ensures.free c.names_are_free.ensures.few _ _ _ c.requires _ c.removal.ensures c.remove.result c.remove.ensures.moves;
  bytes = removal_bytes _ c.names_are_free.ensures.free c.names_are_free.ensures.few _ _ c.args.i _ c.removal.ensures c.remove.result c.remove.ensures.moves;
}

pub returns-clause-acting : goal.returns-clause-acting
returns-clause-acting g c =
    removed_acting crash_laws _ c.names_are_free.ensures.free c.names_are_free.ensures.few _ _ _ c.requires _ c.removal.ensures c.remove.result c.remove.ensures.moves

pub returns-clause-others : goal.returns-clause-others
returns-clause-others g c = removal_keeps c.args.intent.now _ _ c.remove.result c.args.i _ c.removal.ensures c.remove.ensures.moves

pub returns-clause-waiting : goal.returns-clause-waiting
returns-clause-waiting g c = removal_waiting _ c.names_are_free.ensures.free c.names_are_free.ensures.few _ _ c.args.i _ c.removal.ensures c.remove.result c.remove.ensures.moves
