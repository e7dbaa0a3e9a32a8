use Rattle.gen_core.proofs.Texts.{dump_is_read, what_is_read}
use Rattle.gen_core.proofs.laws.a_text_is_accepted_exactly_if_a_root_has_it.Goals as goal

pub returns : goal.returns
returns c = record { said = what_is_read; accepted = dump_is_read }
