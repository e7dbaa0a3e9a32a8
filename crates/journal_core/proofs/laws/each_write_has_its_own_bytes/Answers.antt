use Rattle.journal_core.proofs.Contents.{own_bytes}
use Rattle.journal_core.proofs.laws.each_write_has_its_own_bytes.Goals as goal

pub returns : goal.returns
returns c = λ removals writes contents base i name bytes names. own_bytes removals writes contents base i name bytes (c.the_names_of_a_change_are_free.ensures removals writes names)
