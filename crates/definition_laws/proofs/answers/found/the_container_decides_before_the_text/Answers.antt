use Rattle.std.proofs.Common.{refl}
use Rattle.definition_laws.proofs.answers.Places.{begun, by_container, by_text, container, text_alone}
use Rattle.definition_laws.proofs.answers.found.the_container_decides_before_the_text.Goals as goal

pub returns : goal.returns
returns c = record { container = container; by_container = by_container; text = text_alone; by_text = by_text; refused = refl; begun = begun }
