use Rattle.std.proofs.lemmas.Bool.{not-true}
use Rattle.words_core.specs.Kinds.{can_info_kind_follow}
use Rattle.words_core.proofs.AskedLaws.{offends_after_words}
use Rattle.words_core.proofs.laws.what_follows_a_command_offends_after_it.Goals as goal

pub returns : goal.returns
returns c = λ words more command place cannot. offends_after_words words more command place (not-true (can_info_kind_follow words) cannot)
