use Rattle.std.proofs.Common.{refl, sym, rules}
use Rattle.std.proofs.lemmas.Bool.{eqb-true}
use Rattle.journal_core.proofs.Emptied.{gone_start}
use Rattle.journal_core.proofs.Lasting.{stays_start}
use Rattle.journal_core.proofs.Leaving.{sync_waiting, waiting_none, waiting_on}
use Rattle.journal_recovery.proofs.Synced.{begun_last, begun_moments, begun_shown, clear_cleared, clear_gone, clear_last, clear_moments, clear_proper, clear_shown, names_none, none_last, none_moments, none_shown, not_none, sync_last, sync_moments, sync_proper, sync_shown}
use Rattle.journal_recovery.proofs.recovering.clear_all.Goals as goal

pub returns-then-is_empty-clause-moments : goal.returns-then-is_empty-clause-moments
returns-then-is_empty-clause-moments g c = none_moments c.args.names.now _

pub returns-then-is_empty-clause-removal : goal.returns-then-is_empty-clause-removal
returns-then-is_empty-clause-removal g c = record {
  shown = none_shown c.args.names.now _;
  waiting = waiting_none _ _ refl;
  last = none_last c.args.names.now _;
  cleared = gone_start c.args.names.now _ (names_none c.args.names.now (eqb-true _ _ (sym c.if-is_empty.ensures)));
  gone = stays_start _;
  none = search rules;
}

pub returns-in_err-sync_all_names-clause-moments : goal.returns-in_err-sync_all_names-clause-moments
returns-in_err-sync_all_names-clause-moments g c = begun_moments c.args.names.now _ _ (sync_moments _ _ _ c.in_err-sync_all_names.ensures.moves)

pub returns-in_err-sync_all_names-clause-removal : goal.returns-in_err-sync_all_names-clause-removal
returns-in_err-sync_all_names-clause-removal g c = record {
  shown = begun_shown c.args.names.now _ _ (sync_shown _ _ _ c.in_err-sync_all_names.ensures.moves);
  waiting = sync_waiting _ _ _ c.in_err-sync_all_names.ensures.moves;
  last = begun_last c.args.names.now _ _ (sync_last _ _ _ c.in_err-sync_all_names.ensures.moves);
  cleared = search rules;
  gone = search rules;
  none = λ e. absurd (not_none c.args.names.now (sym c.if-is_empty.ensures) e);
}

pub returns-in_err-sync_all_names-clause-proper : goal.returns-in_err-sync_all_names-clause-proper
returns-in_err-sync_all_names-clause-proper g c = sync_proper _ _ _ _ c.in_err-sync_all_names.ensures.counts

pub returns-clause-moments : goal.returns-clause-moments
returns-clause-moments g c = clear_moments c.args.names.now _ _ _ _ c.in_ok-sync_all_names.ensures.moves c.remove_all.ensures.moments

pub returns-clause-removal : goal.returns-clause-removal
returns-clause-removal g c = record {
  shown = clear_shown c.args.names.now _ _ _ _ c.in_ok-sync_all_names.ensures.moves c.remove_all.ensures.removal.shown;
  waiting = waiting_on _ _ _ (sync_waiting _ _ _ c.in_ok-sync_all_names.ensures.moves) c.remove_all.ensures.removal.waiting;
  last = clear_last c.args.names.now _ _ _ _ c.in_ok-sync_all_names.ensures.moves c.remove_all.ensures.removal.last;
  cleared = clear_cleared c.args.names.now _ _ _ _ c.in_ok-sync_all_names.ensures.moves c.remove_all.result c.remove_all.ensures.removal.cleared;
  gone = clear_gone c.args.names.now _ _ _ _ c.in_ok-sync_all_names.ensures.moves c.remove_all.result c.remove_all.ensures.removal.gone;
  none = λ e. absurd (not_none c.args.names.now (sym c.if-is_empty.ensures) e);
}

pub returns-clause-proper : goal.returns-clause-proper
returns-clause-proper g c = clear_proper c.args.names.now _ _ (g.T.Tree.history c.remove_all.new.tree) _ c.in_ok-sync_all_names.ensures.moves _ _ _ (sync_proper _ _ _ _ c.in_ok-sync_all_names.ensures.counts) c.remove_all.ensures.proper
