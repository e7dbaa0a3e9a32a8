use Rattle.engine_core.proofs.change_outcome.Made.{made}
use Rattle.tell_core.proofs.Refusing.{info_late, info_refused}
use Rattle.outcome.proofs.FirstSelections.{over_end}
use Rattle.outcome.proofs.IntentRefusals.{refused_bad}
use Rattle.outcome.proofs.Tellers.{late_stated, refused_stated}
use Rattle.outcome.proofs.only_a_bad_intent_is_refused_as_one.Goals as goal

pub returns : goal.returns
returns c = refused_bad (refused_stated info_refused info_late) (late_stated info_refused info_late) (over_end made)
