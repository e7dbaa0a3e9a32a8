use Rattle.gen_core.proofs.FirstBad.{first, one}
use Rattle.gen_core.proofs.laws.the_reported_line_is_the_first_that_no_dump_has.Goals as goal

pub returns : goal.returns
returns c = record { first = first; one = one }
