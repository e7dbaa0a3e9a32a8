use Rattle.journal_core.proofs.Leaving.{lasting_done, lasting_ends, lasting_failed, lasting_start, remove_waiting, waiting_on, waiting_start}
use Rattle.std.proofs.Common.{refl, arith, rules}
use Rattle.journal_core.proofs.journal_intent.Copies.{take_more}
use Rattle.base_core.proofs.Counting.{goes_on_twice, no_fault_twice, goes_on_same, no_fault_same}
use Rattle.journal_core.proofs.Emptied.{any_told, cleared_done, cleared_ends, cleared_failed, cleared_start, gone_done, gone_start, not_empty, shown_done, shown_ends, shown_failed, shown_start, take_all, told_misuses}
use Rattle.journal_core.proofs.Lasting.{stays_done, stays_start}
use Rattle.journal_core.proofs.Images.{crash_laws}
use Rattle.journal_recovery.proofs.recovering.remove_all.Goals as goal

pub loop-i-init : goal.loop-i-init
loop-i-init g c = (cleared_start _ _, gone_start _ _ refl, goes_on_same _, no_fault_same _, any_told _ _ _ refl, stays_start _, shown_start _ _, waiting_start _, lasting_start _ _, λ e. refl)

pub loop-i-preserved : goal.loop-i-preserved
loop-i-preserved g c =
    let (cleared, gone, goes, none, proper, stays, shown, waiting, lasting, idle) = c.loop-i.invariant in (
      cleared_done crash_laws c.args.names.now _ _ _ c.loop-i.i c.get.result.now c.get.ensures _ cleared c.in_ok-remove.ensures.moves,
      gone_done crash_laws c.args.names.now _ _ _ c.loop-i.i c.get.result.now c.get.ensures _ _ _ (take_more c.args.names.now c.loop-i.i c.get.result.now c.get.ensures) gone c.in_ok-remove.ensures.moves,
      goes_on_twice _ _ _ goes c.in_ok-remove.ensures.counts.goes_on,
      no_fault_twice _ _ _ none c.in_ok-remove.ensures.counts.kept,
      told_misuses _ _ _ _ _ _ gone proper c.in_ok-remove.ensures.counts,
      stays_done _ _ _ c.get.result.now _ stays c.in_ok-remove.ensures.moves,
      shown_done c.args.names.now _ _ _ c.loop-i.i c.get.result.now c.get.ensures _ shown c.in_ok-remove.ensures.moves,
      waiting_on _ _ _ waiting (remove_waiting _ _ _ _ c.in_ok-remove.ensures.moves),
      lasting_done c.args.names.now _ _ _ c.loop-i.i c.get.result.now c.get.ensures _ lasting c.in_ok-remove.ensures.moves,
      λ e. absurd (not_empty c.args.names.now c.loop-i.i c.get.result.now c.get.ensures e),
    )

pub returns-in_err-remove-clause-moments : goal.returns-in_err-remove-clause-moments
returns-in_err-remove-clause-moments g c =
    let (cleared, gone, goes, none, proper, stays, shown, waiting, lasting, idle) = c.loop-i.invariant in
    cleared_failed crash_laws c.args.names.now _ _ _ c.loop-i.i c.get.result.now c.get.ensures _ cleared c.in_err-remove.ensures.moves

pub returns-in_err-remove-clause-removal : goal.returns-in_err-remove-clause-removal
returns-in_err-remove-clause-removal g c =
    let (cleared, gone, goes, none, proper, stays, shown, waiting, lasting, idle) = c.loop-i.invariant in
    record {
      shown = shown_failed c.args.names.now _ _ _ c.loop-i.i c.get.result.now c.get.ensures _ shown c.in_err-remove.ensures.moves;
      waiting = waiting_on _ _ _ waiting (remove_waiting _ _ _ _ c.in_err-remove.ensures.moves);
      last = lasting_failed c.args.names.now _ _ _ c.loop-i.i c.get.result.now c.get.ensures _ lasting c.in_err-remove.ensures.moves;
      cleared = search rules;
      gone = search rules;
      none = λ e. absurd (not_empty c.args.names.now c.loop-i.i c.get.result.now c.get.ensures e);
    }

pub returns-in_err-remove-clause-proper : goal.returns-in_err-remove-clause-proper
returns-in_err-remove-clause-proper g c =
    let (cleared, gone, goes, none, proper, stays, shown, waiting, lasting, idle) = c.loop-i.invariant in
    told_misuses _ _ _ _ _ _ gone proper c.in_err-remove.ensures.counts

pub returns-clause-moments : goal.returns-clause-moments
returns-clause-moments g c =
    let (cleared, gone, goes, none, proper, stays, shown, waiting, lasting, idle) = c.loop-i.invariant in
    cleared_ends _ _ _ cleared

pub returns-clause-removal : goal.returns-clause-removal
returns-clause-removal g c =
    let (cleared, gone, goes, none, proper, stays, shown, waiting, lasting, idle) = c.loop-i.invariant in
    record {
      shown = shown_ends _ _ _ shown;
      waiting = waiting;
      last = lasting_ends _ _ _ lasting;
      cleared = take_all _ _ _ _ (omega arith) gone;
      gone = stays;
      none = search rules;
    }
