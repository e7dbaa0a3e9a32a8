use Rattle.std.proofs.Common.{ap}
use Rattle.std.specs.Prelude.{is_none}
use Rattle.change_inputs.proofs.Texts.{text_passes}
use Rattle.change_inputs.proofs.database.payload_of_text.Goals as goal

pub invariant_of-result : goal.invariant_of-result
invariant_of-result c = record { sound = ap is_none (text_passes c.args.text.now c.in_ok-payload.payload.items c.in_ok-payload.ensures.ok) }
