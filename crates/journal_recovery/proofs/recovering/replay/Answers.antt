use Rattle.std.proofs.Common.{refl, rules}
use Rattle.journal_recovery.proofs.Recovered.{counts_later}
use Rattle.journal_recovery.proofs.Replaying.{found_there, none_found, proper_behind, replay_behind, replay_nothing, replay_stops, some_found}
use Rattle.journal_recovery.proofs.recovering.replay.Goals as goal

pub replay_file-requires : goal.replay_file-requires
replay_file-requires g c = found_there _ _ c.read_all.ensures.tree.same _ _ c.in_ok-name.ensures (some_found _ _ _ _ c.in_ok-file.ensures.answer c.in-Some.is)

pub returns-in_err-name-clause-intent : goal.returns-in_err-name-clause-intent
returns-in_err-name-clause-intent g c = replay_stops _ _ refl _ (record { error = search rules; other = search rules })

pub returns-in_err-file-clause-intent : goal.returns-in_err-file-clause-intent
returns-in_err-file-clause-intent g c = replay_stops _ _ c.read_all.ensures.tree.same _ (record { error = search rules; other = search rules })

pub returns-in-Some-clause-intent : goal.returns-in-Some-clause-intent
returns-in-Some-clause-intent g c = replay_behind _ _ c.read_all.ensures.tree.same _ c.replay_file.result c.replay_file.ensures.intent

pub returns-in-Some-clause-counts : goal.returns-in-Some-clause-counts
returns-in-Some-clause-counts g c = counts_later _ _ _ c.read_all.ensures.tree.goes_on c.in_ok-file.ensures.tree.kept c.replay_file.result c.replay_file.ensures.counts

pub returns-in-Some-clause-proper : goal.returns-in-Some-clause-proper
returns-in-Some-clause-proper g c = proper_behind _ _ c.read_all.ensures.tree.same _ _ _ c.read_all.ensures.tree.proper c.replay_file.ensures.proper

pub returns-clause-intent : goal.returns-clause-intent
returns-clause-intent g c = replay_nothing _ _ c.read_all.ensures.tree.same _ c.in_ok-name.ensures (none_found _ _ _ c.in_ok-file.ensures.answer c.in-None.is) _
