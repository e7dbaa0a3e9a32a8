use Rattle.std.proofs.lemmas.Bool.{not-true}
use Rattle.words_core.specs.Kinds.{can_info_kind_follow}
use Rattle.words_core.proofs.AskedLaws.{usage_stays_words}
use Rattle.words_core.proofs.laws.words_offend_whatever_follows.Goals as goal

pub returns : goal.returns
returns c = λ words more place cannot. usage_stays_words words more place (not-true (can_info_kind_follow words) cannot)
