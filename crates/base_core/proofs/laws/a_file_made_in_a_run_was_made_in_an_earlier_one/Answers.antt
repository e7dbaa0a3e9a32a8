use Rattle.base_core.proofs.Counting.{led_later, led_sooner}
use Rattle.base_core.proofs.laws.a_file_made_in_a_run_was_made_in_an_earlier_one.Goals as goal

pub returns-clause-begun : goal.returns-clause-begun
returns-clause-begun c = led_sooner

pub returns-clause-later : goal.returns-clause-later
returns-clause-later c = led_later
